pub mod Names
pub mod CallerLemmas
mod OrderLemmas
mod OrderFacts
mod WrittenFacts
