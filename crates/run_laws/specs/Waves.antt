pub mod Times
pub mod Texts
