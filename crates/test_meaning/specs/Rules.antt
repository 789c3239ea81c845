pub mod Names
pub mod File
pub mod Uses
pub mod Rules
pub mod Rows
