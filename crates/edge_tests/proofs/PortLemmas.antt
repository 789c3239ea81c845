pub mod CallLaws
pub mod FolderLaws
pub mod NumberLaws
