pub mod RunnerLemmas
