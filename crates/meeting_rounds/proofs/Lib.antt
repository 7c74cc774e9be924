mod PutFacts
mod MoveFacts
mod RoundFacts
mod NearFacts
mod LawFacts
pub mod SpotLemmas
pub mod RoundLemmas
pub mod StayLemmas
mod PutLemmas
mod TrackLemmas
mod NearLemmas
mod NearPointLemmas
