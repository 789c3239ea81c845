pub mod Times
pub mod Waits
pub mod Events
pub mod Effects
pub mod Steps
pub mod Runs
pub mod Texts
