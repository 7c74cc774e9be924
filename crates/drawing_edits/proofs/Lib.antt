pub mod Names
pub mod CallerLemmas
pub mod ExtentLemmas
pub mod SpotLemmas
pub mod NumberLemmas
pub mod RangeLemmas
pub mod OutsideLemmas
pub mod PieceLemmas
pub mod OrderLemmas
pub mod KeptEndLemmas
pub mod EndOrderLemmas
pub mod BlockGroupLemmas
pub mod DrawnAgainLemmas
pub mod LineDrawnLemmas
pub mod ValidRedrawLemmas
mod EditFacts
mod PlaceFacts
mod KeptEndFacts
mod ValidRedrawFacts
mod LawFacts
mod RefutedEditFacts
