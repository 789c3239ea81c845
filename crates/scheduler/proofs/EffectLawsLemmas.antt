pub mod Times
pub mod Places
pub mod Effects
pub mod Asked
pub mod Begins
