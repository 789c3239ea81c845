pub mod Division
pub mod Sound
