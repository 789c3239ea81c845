pub mod BodyTrees
pub mod Sound
pub mod Views
pub mod Rows
