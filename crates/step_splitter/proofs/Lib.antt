pub mod Names
pub mod CallerLemmas
mod SplitFacts
mod QuotientLemmas
mod AxisLemmas
mod PointLemmas
mod ChainLemmas
mod RefitFacts
pub mod RefitLemmas
pub mod RefittedActLemmas
pub mod FitLemmas
mod RefitResultFacts
