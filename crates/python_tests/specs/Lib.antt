pub mod Row
pub mod Shown
pub mod Answers
pub mod Trees
