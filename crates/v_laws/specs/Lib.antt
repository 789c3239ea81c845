pub mod Digits
pub mod Drivers
pub mod Instances
pub mod Least
pub mod Steps
pub mod Joints
pub mod Reads
pub mod Traces
