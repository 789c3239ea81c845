pub mod Scene
pub mod Variables
pub mod Printed
pub mod Row
