pub mod Waiters
pub mod Changes
pub mod Woken
pub mod Kernel
pub mod Times
pub mod Whole
