pub mod Digits
pub mod Targets
pub mod Made
