pub mod Lists
pub mod TimeSets
pub mod Steps
