pub mod Queues
pub mod Puts
