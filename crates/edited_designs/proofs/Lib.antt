pub mod Names
pub mod ListLemmas
mod EditFacts
mod BoundFacts
