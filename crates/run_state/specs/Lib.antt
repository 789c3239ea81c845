pub mod LiveTasks
pub mod Queue
pub mod TestTasks
pub mod Lines
