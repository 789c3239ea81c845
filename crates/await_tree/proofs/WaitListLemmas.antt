pub mod Awaited
pub mod Counts
pub mod Edges
pub mod Members
pub mod Rekeys
pub mod RingLaws
pub mod Served
