pub mod Names
mod SpacedFacts
mod ChoiceFacts
mod SpacedAnswerFacts
mod SpacingLawFacts
pub mod JunctionLemmas
pub mod BestLemmas
pub mod ChainLemmas
pub mod ChoiceLemmas
pub mod ReversedLemmas
pub mod SpacingLemmas
pub mod SharedLemmas
pub mod SavedLemmas
pub mod KeptEndLemmas
pub mod KeptCountLemmas
pub mod KeptSectionLemmas
pub mod SpacedLimitLemmas
pub mod SpacedAnswerLemmas
pub mod PieceLemmas
