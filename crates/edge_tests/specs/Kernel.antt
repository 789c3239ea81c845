pub mod Designs
pub mod Keys
pub mod Calls
pub mod Shown
