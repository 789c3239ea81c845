pub mod Call
pub mod Kept
pub mod Words
pub mod Reading
pub mod Lines
pub mod Lists
