pub mod Made
pub mod Checked
pub mod Constants
