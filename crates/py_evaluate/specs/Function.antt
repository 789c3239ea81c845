pub mod Making
pub mod Functions
