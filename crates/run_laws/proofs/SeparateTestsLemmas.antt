pub mod Blind
pub mod Runs
pub mod Idle
