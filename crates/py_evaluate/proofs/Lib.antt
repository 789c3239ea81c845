pub mod AttributeLemmas
pub mod FunctionLemmas
pub mod Plain
pub mod Chains
pub mod Steps
pub mod Onward
pub mod Numbers
