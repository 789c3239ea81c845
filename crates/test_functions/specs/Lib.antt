pub mod Expressions
pub mod Blocks
pub mod Numbers
pub mod Inside
pub mod Clock
