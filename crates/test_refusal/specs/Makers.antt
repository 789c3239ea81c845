pub mod Numbered
pub mod SoFar
