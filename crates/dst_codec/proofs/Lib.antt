pub mod Names
pub mod ExtentLemmas
pub mod HeaderLemmas
mod BitFacts
mod LimitFacts
pub mod OneEncodingLemmas
mod ReadingFacts
pub mod ReadingLemmas
pub mod RecordCountLemmas
pub mod RunLemmas
mod MoveEncodingFacts
pub mod MoveEncodingLemmas
pub mod TableLemmas
mod WritingFacts
pub mod WritingLemmas
pub mod laws
mod TheoremFacts
mod StepFacts
