pub mod Places
pub mod Directions
pub mod LaterNames
pub mod ParameterLaws
pub mod ParameterLemmas
pub mod GivenLemmas
pub mod TopLemmas
