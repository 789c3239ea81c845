pub mod DigitLaws
pub mod EventLaws
pub mod FoundLaws
pub mod ListLaws
pub mod RowLaws
