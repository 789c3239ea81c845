pub mod Digits
pub mod Masks
