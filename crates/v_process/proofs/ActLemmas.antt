pub mod CaseItems
pub mod CaseStatements
pub mod Done
pub mod Assigning
pub mod Chosen
pub mod Blocks
