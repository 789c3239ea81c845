pub mod Walk
pub mod Tasks
pub mod Rigs
pub mod Runs
