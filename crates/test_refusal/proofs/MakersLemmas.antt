pub mod Products
pub mod Numbers
pub mod Items
pub mod Above
pub mod Tells
