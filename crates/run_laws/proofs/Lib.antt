pub mod SeparateTestsLemmas
pub mod RemainderLemmas
pub mod PlacesLemmas
pub mod ItemsLemmas
pub mod WavesLemmas
