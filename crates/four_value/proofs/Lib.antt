pub mod Digits
pub mod Tables
pub mod Numbers
pub mod Parts
pub mod Reductions
pub mod Equality
pub mod Lengths
pub mod Letters
