pub mod UsesLemmas
pub mod ArgumentsLemmas
pub mod DefinitionsLemmas
pub mod ScopeLemmas
pub mod LocalsLemmas
pub mod LastLineLemmas
pub mod DuplicatesLemmas
