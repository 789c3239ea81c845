pub mod Active
pub mod Waiting
pub mod Delays
pub mod Held
pub mod Queues
