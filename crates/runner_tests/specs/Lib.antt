pub mod Runner
