pub mod OwnLine
pub mod Functions
