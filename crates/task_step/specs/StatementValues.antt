pub mod Kept
pub mod Filling
