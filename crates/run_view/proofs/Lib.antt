pub mod RandomStreamLemmas
pub mod SignalPortLemmas
pub mod DesignNamesLemmas
pub mod Known
pub mod SeenQueues
