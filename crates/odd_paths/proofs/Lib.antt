pub mod Names
pub mod CallerLemmas
mod DegreeLemmas
mod PlaceLemmas
mod SweepLemmas
mod CoverLemmas
mod SoundLemmas
mod FallLemmas
mod RowLemmas
mod LastLemmas
mod PassLemmas
mod TableLemmas
mod RowFacts
mod LaneLemmas
mod PassKeeping
mod DistanceLemmas
mod SweepFacts
mod LeastCostFacts
mod TableFacts
