pub mod Widths
pub mod Lists
pub mod Rows
pub mod StretchLaws
pub mod Made
pub mod Copies
pub mod Steps
pub mod SameKeys
pub mod Sound
pub mod Trees
pub mod Forced
mod WorkedSteps
