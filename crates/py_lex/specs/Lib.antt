pub mod Limit
pub mod Fits
pub mod Scan
pub mod Answer
