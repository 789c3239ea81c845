pub mod Elaboration
