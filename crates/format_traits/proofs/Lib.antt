pub mod Names
pub mod CallerLemmas
mod EndingFacts
pub mod LabelLemmas
pub mod EndingLemmas
mod LawFacts
mod LimitFacts
mod MoveHopFacts
pub mod DecoderStateLemmas
pub mod FeedLemmas
mod ThreeLawFacts
pub mod AcceptedLemmas
pub mod LawLemmas
mod WritingFacts
mod DecoderFacts
