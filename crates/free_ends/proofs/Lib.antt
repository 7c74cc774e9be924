pub mod Names
pub mod PassLemmas
pub mod WalkLemmas
pub mod TourLemmas
pub mod LinkLemmas
pub mod ExtraLemmas
pub mod PairLemmas
pub mod OddLemmas
pub mod SpotLemmas
pub mod TableLemmas
pub mod MateLemmas
pub mod LowerLemmas
pub mod UpperLemmas
pub mod TriangleLemmas
pub mod ChoiceLemmas
pub mod FoundLemmas
pub mod OrderLemmas
pub mod PieceSpotLemmas
pub mod FreedLemmas
pub mod TakenLemmas
mod BestEndFacts
mod FreedLawFacts
mod EndDistanceFacts
mod FreedFacts
