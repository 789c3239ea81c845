pub mod Pairs
pub mod Narrow
