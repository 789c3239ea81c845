pub mod Evaluation
pub mod Arguments
pub mod Times
pub mod Waits
