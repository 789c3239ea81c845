pub mod Gives
pub mod Marks
pub mod Readers
pub mod Found
