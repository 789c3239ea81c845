pub mod ExpressionsLemmas
pub mod StatementsLemmas
pub mod BlocksLemmas
pub mod Ordered
pub mod Found
pub mod Named
pub mod Copied
