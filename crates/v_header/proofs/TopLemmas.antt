pub mod Numbering
pub mod Instances
