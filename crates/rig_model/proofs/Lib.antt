pub mod TaskLemmas
pub mod RunLemmas
pub mod PartsLemmas
