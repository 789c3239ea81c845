pub mod Keys
pub mod Placed
