pub mod Steps
pub mod Questions
