pub mod CasesLemmas
pub mod ListLemmas
pub mod SoundLemmas
mod Checked
pub mod TextLemmas
