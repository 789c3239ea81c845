pub mod Cases
pub mod MadeCases
pub mod Statements
pub mod Assignments
pub mod Sequences
pub mod Made
