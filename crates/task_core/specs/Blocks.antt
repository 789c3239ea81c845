pub mod Steps
pub mod Handlers
