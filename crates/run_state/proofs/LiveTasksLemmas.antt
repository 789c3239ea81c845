pub mod Numbered
pub mod Files
pub mod Kept
