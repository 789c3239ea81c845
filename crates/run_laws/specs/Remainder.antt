pub mod Rests
pub mod Alike
pub mod Remainder
