pub mod LoopSpanLemmas
pub mod StatementValuesLemmas
pub mod TaskValuesLemmas
