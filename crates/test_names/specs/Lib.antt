pub mod Uses
pub mod Arguments
pub mod Definitions
pub mod Scope
pub mod Locals
pub mod LastLine
pub mod Duplicates
