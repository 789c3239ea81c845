pub mod Steps
pub mod Rules
pub mod Laws
pub mod Callers
pub mod Lowest
