pub mod Fits
pub mod Still
pub mod Effects
pub mod Sheds
