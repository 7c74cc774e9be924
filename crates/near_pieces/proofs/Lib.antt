pub mod Names
pub mod NodeLemmas
pub mod RootLemmas
pub mod StopLemmas
pub mod ChangeLemmas
pub mod TrackLemmas
pub mod RunLemmas
pub mod NearLemmas
pub mod PieceSpanLemmas
pub mod PieceOrderLemmas
pub mod DrawnWholeLemmas
pub mod WalkCostLemmas
pub mod SameWalkLemmas
mod TravelFacts
mod NearFacts
mod ChangeFacts
mod NodeFacts
mod NearDrawingFacts
mod NearLawFacts
