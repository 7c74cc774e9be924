pub mod Names
pub mod CallerLemmas
pub mod BlockRoundTrip
mod CoordinateFacts
pub mod ExtentLemmas
pub mod HeaderLemmas
pub mod LabelLemmas
mod LawFacts
mod LimitFacts
pub mod ReadingLemmas
pub mod ThreadLemmas
mod RecordFacts
pub mod RecordLemmas
pub mod RoundTripLemmas
pub mod RecordByteLemmas
mod WritingFacts
pub mod WritingLemmas
mod StepFacts
