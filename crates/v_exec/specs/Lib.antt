pub mod Machine
pub mod Fits
pub mod Packing
pub mod Packed
pub mod Code
pub mod Stack
pub mod Workspace
pub mod Running
