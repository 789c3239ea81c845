pub mod Pushed
pub mod Ordered
pub mod Fresh
