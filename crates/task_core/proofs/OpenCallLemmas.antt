pub mod Unwound
pub mod Naming
pub mod Ends
