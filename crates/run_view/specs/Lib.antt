pub mod RandomStream
pub mod SignalPort
pub mod DesignNames
pub mod View
pub mod Facts
