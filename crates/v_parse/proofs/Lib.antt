pub mod ItemLemmas
pub mod Steps
pub mod ModuleLaws
pub mod Lowest
pub mod SourceLaws
pub mod Source
pub mod ModuleCounts
pub mod ParseLaws
