pub mod ListLemmas
pub mod WholeLemmas
mod WholeFacts
mod FileLimitFacts
pub mod Names
pub mod CallerLemmas
mod ActFacts
mod LimitFacts
mod PointFacts
mod RootLemmas
mod LengthFacts
pub mod ActLemmas
mod CountFacts
mod ExtentFacts
pub mod ExtentLemmas
mod BlockFacts
pub mod BlockLemmas
pub mod CommandLemmas
mod PushFacts
