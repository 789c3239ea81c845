pub mod SeparateTests
pub mod Remainder
pub mod Places
pub mod Items
pub mod Waves
