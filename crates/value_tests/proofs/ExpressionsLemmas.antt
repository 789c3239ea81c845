pub mod Names
pub mod Known
pub mod RowLaws
pub mod WholeLaws
pub mod Declared
