pub mod ScopeLemmas
pub mod Holds
pub mod Widths
pub mod Driven
pub mod DrivenItems
pub mod Delays
pub mod Rows
pub mod ShapeLemmas
