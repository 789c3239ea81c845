pub mod Held
pub mod Quotients
pub mod Complement
