pub mod Names
pub mod CallerLemmas
mod BlameFacts
mod CountFacts
mod LimitFacts
mod CauseFacts
mod MemoryFacts
pub mod EntryPlaces
pub mod EntryFiles
pub mod WholeFiles
pub mod WholeAnswers
pub mod StreamLemmas
mod ResultFacts
mod EntryFacts
mod ViewFacts
