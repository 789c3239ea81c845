pub mod Given
pub mod Values
pub mod Constants
pub mod Found
