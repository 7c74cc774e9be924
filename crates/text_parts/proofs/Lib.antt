pub mod CallerLemmas
mod PartLemmas
mod PartFacts
