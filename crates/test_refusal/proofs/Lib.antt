pub mod ValuesLemmas
pub mod ItemsLemmas
pub mod MakersLemmas
pub mod Scopes
pub mod Parts
pub mod Steps
