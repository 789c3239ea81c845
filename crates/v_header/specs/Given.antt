pub mod Given
pub mod Uses
