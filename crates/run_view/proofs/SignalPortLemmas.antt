pub mod Numbers
pub mod QueueLaws
