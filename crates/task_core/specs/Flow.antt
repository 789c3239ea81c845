pub mod Flow
pub mod Given
