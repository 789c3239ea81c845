pub mod Rows
pub mod Known
pub mod Onward
pub mod Memory
pub mod Numbers
