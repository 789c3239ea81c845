pub mod Values
pub mod Items
pub mod Makers
pub mod Places
pub mod Pass
