pub mod IntegerLemmas
pub mod Cuts
pub mod Folded
pub mod Found
pub mod OperatorLemmas
pub mod TimeLemmas
