pub mod Reading
pub mod Head
pub mod Functions
