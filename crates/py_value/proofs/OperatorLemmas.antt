pub mod Digits
pub mod Others
