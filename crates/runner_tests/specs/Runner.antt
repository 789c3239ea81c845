pub mod Files
pub mod Words
pub mod Commands
pub mod Designs
pub mod Tests
pub mod Turns
pub mod Answers
