pub mod Names
pub mod CallerLemmas
pub mod MatchingFacts
pub mod MoatLemmas
pub mod LeastLemmas
mod MaskFacts
mod FoldFacts
pub mod TakenLemmas
pub mod SearchLemmas
pub mod FreeLemmas
pub mod PartialMatchingLemmas
pub mod ScanLemmas
pub mod OuterSlackLemmas
pub mod FoldLemmas
pub mod CandidateLemmas
pub mod MaskLemmas
pub mod BoundLemmas
pub mod DualLemmas
pub mod LoweredLemmas
pub mod KeptLemmas
pub mod EndLemmas
pub mod AdjustmentLemmas
pub mod InitialDualLemmas
mod OptimalMatchingFacts
mod SearchFacts
mod ChangeFacts
mod SlackFacts
mod EdgeFacts
mod TakenFacts
