mod Faults
pub mod TreesLemmas
