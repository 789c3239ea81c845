pub mod Live
pub mod Tasks
