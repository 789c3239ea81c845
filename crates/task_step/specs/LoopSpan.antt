pub mod Span
pub mod Question
