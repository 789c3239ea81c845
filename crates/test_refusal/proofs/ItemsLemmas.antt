pub mod Lines
pub mod Functions
pub mod Dotted
pub mod Factories
pub mod Counts
