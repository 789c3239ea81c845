pub mod Wakes
pub mod Loaded
pub mod Procs
pub mod Hiding
pub mod Queues
pub mod Taken
