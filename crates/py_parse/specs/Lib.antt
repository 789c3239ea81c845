pub mod ModuleLine
pub mod Blocks
pub mod BlocksView
pub mod Reading
pub mod Found
pub mod Nesting
pub mod Kept
pub mod Answers
