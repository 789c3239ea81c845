pub mod Begun
pub mod Counts
pub mod Edges
pub mod Keys
pub mod Limits
pub mod Parts
pub mod Ring
pub mod Waiting
