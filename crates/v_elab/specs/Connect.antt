pub mod Joints
pub mod Found
