pub mod Flows
pub mod Tasks
pub mod Placed
