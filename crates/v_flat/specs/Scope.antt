pub mod Limits
pub mod Rules
pub mod Found
pub mod Scope
pub mod Entries
