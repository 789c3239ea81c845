pub mod ValuesLemmas
pub mod ExpressionsLemmas
