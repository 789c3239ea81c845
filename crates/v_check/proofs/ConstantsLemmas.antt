pub mod Combined
pub mod Operators
pub mod Unsignalled
pub mod Values
pub mod Rows
