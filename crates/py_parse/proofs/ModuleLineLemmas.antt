pub mod FormLaws
pub mod LineKinds
pub mod LineLaws
