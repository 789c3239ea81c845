pub mod Bits
pub mod Meets
pub mod Kept
