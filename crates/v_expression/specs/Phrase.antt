pub mod Stops
pub mod Refusals
pub mod Readers
pub mod Kinds
