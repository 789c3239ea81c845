pub mod DesignLaws
pub mod KeyLaws
pub mod BookLaws
pub mod RowLaws
