pub mod Step
pub mod Outcomes
