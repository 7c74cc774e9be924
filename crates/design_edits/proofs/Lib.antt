pub mod Names
mod MoveFacts
pub mod MoveLemmas
pub mod LawLemmas
mod ColourFacts
pub mod ColourLemmas
mod InverseFacts
