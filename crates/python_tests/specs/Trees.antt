pub mod TreeText
pub mod CallText
pub mod StatementText
pub mod ModuleText
