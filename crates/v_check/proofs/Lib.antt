pub mod ContextualLemmas
pub mod ConstantsLemmas
pub mod PartsLemmas
pub mod NamesLemmas
pub mod Ends
pub mod Behind
