pub mod Phrase
pub mod Reading
pub mod Measures
pub mod Lists
pub mod Follows
pub mod Starts
