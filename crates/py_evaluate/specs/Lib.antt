pub mod Attribute
pub mod Function
pub mod Eval
pub mod Wants
pub mod Gives
pub mod Rows
