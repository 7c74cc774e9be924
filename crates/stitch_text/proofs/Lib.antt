pub mod Names
pub mod WriterLemmas
mod PartLemmas
mod ReadingLemmas
mod LabelLemmas
mod StageLemmas
mod ListStateLemmas
mod NumberLemmas
mod LineLemmas
mod ActLemmas
pub mod RoundTrip
mod ActContinuations
pub mod CanonicalText
pub mod KeptLemmas
mod FloatLemmas
mod ListFacts
mod LawFacts
mod LineFacts
mod ReadingFacts
mod StageFacts
mod DraftFacts
