pub mod LiveTasksLemmas
pub mod QueueLemmas
pub mod TestTasksLemmas
pub mod LinesLemmas
