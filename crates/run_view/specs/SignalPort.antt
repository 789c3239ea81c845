pub mod Written
pub mod Staging
pub mod Queue
