pub mod ItemLemmas
pub mod EndLemmas
mod EndFacts
