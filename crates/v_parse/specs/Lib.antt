pub mod Item
pub mod Answers
pub mod Firsts
pub mod Reading
