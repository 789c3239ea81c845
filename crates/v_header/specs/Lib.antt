pub mod Names
pub mod Parameters
pub mod Heads
pub mod Ports
pub mod Range
pub mod Parameter
pub mod Given
pub mod Top
