pub mod Forms
pub mod Walked
