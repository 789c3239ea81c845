pub mod LoopSpan
pub mod StatementValues
pub mod TaskValues
