pub mod ConnectLemmas
pub mod NamedLemmas
pub mod Fitting
pub mod Adding
pub mod Made
pub mod Turns
pub mod Counts
pub mod Ends
mod Table
mod Matches
mod Joins
mod Loop
pub mod Names
pub mod Begun
pub mod BeginEnds
pub mod Grown
pub mod Later
pub mod BeginOpened
pub mod Declared
pub mod Founds
pub mod Fresh
pub mod Known
pub mod Checks
pub mod InnerMade
pub mod Left
pub mod Among
pub mod Chains
pub mod Levels
pub mod Passed
pub mod WalkInner
pub mod Plain
pub mod WalkNames
pub mod WalkWhole
pub mod Ending
pub mod Top
pub mod Told
