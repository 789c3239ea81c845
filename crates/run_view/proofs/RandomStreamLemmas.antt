pub mod Words
pub mod Seeding
pub mod Share
