pub mod Cases
pub mod List
pub mod Sound
pub mod Checks
pub mod Text
