pub mod Calls
pub mod Fits
pub mod Clocks
pub mod Uses
pub mod Files
