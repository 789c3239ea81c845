pub mod Halves
pub mod Dots
pub mod Plain
pub mod Others
pub mod Operators
pub mod Onward
pub mod Want
pub mod Numbers
