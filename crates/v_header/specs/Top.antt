pub mod Modules
pub mod Found
