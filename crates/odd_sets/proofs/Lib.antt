pub mod Names
pub mod ListLemmas
pub mod SumLemmas
pub mod BlossomLemmas
pub mod TableLemmas
pub mod OpenLemmas
mod LimitFacts
mod SlackRowFacts
mod SoundFacts
mod SetFacts
mod SlotFacts
mod MatchedFacts
mod TreeFacts
mod ShrinkFacts
mod ShrunkFacts
mod ExpandFacts
pub mod TreeLemmas
pub mod AugmentLemmas
pub mod HandleLemmas
pub mod SlotLemmas
pub mod MatchLemmas
pub mod ClosingLemmas
pub mod ChainLemmas
pub mod ShrinkLemmas
pub mod ShrunkLemmas
pub mod ReversalLemmas
pub mod SplitLemmas
pub mod ExpandLemmas
pub mod FirstLemmas
pub mod FreedLemmas
pub mod RaisedLemmas
pub mod SlackRowLemmas
pub mod CallerLemmas
