pub mod Chains
pub mod Stored
pub mod Gathered
pub mod CutWidths
pub mod Replaced
