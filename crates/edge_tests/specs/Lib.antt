pub mod Port
pub mod Kernel
