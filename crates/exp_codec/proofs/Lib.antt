pub mod Names
mod UnitFacts
pub mod UnitLemmas
pub mod RoundTrip
mod WritingFacts
