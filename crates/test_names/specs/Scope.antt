pub mod Tables
pub mod Around
pub mod Judged
