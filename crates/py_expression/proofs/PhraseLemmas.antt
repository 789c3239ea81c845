pub mod Steps
pub mod Facts
pub mod Phrased
pub mod Choices
pub mod Lists
pub mod ConstantLaws
pub mod SettingLaws
