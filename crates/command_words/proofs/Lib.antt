pub mod WordFacts
mod ValidFacts
pub mod CallerLemmas
