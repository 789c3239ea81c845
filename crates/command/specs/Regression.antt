pub mod Status
pub mod Runs
pub mod Leaves
pub mod Reached
pub mod Stages
