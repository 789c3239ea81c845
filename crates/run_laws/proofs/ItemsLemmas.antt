pub mod Queues
pub mod Account
pub mod Taken
pub mod Puts
