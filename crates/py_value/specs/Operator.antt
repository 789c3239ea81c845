pub mod Number
pub mod Means
pub mod Identity
pub mod Operation
