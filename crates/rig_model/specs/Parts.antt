pub mod Queue
pub mod Fits
pub mod Placed
pub mod Steps
pub mod Made
pub mod Apart
pub mod Runs
