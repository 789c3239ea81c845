pub mod Braces
pub mod Targets
pub mod Continuous
pub mod Made
