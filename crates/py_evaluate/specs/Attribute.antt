pub mod Attribute
pub mod Gives
pub mod Look
pub mod Knows
pub mod Outcome
pub mod Numbers
