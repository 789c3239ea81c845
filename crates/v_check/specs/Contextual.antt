pub mod Contexts
pub mod Concatenations
