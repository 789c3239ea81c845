pub mod BodyLemmas
pub mod FactoryLemmas
pub mod RulesLemmas
mod WorkedRows
