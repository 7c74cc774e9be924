mod CopyFacts
mod MeetFacts
pub mod PassedLemmas
pub mod LeftLemmas
pub mod OnceLemmas
pub mod PartLemmas
pub mod AgainLemmas
