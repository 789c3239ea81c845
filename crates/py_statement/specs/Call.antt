pub mod Kept
pub mod Chosen
pub mod Words
pub mod Reading
pub mod Views
