pub mod Tables
pub mod SoFar
