pub mod Proper
pub mod Selects
pub mod Made
