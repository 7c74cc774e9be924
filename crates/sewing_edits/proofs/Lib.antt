pub mod Names
pub mod CutLemmas
pub mod CarryLemmas
pub mod MergeLemmas
pub mod BeanLemmas
pub mod ScaleLemmas
pub mod ExtentLemmas
pub mod BlockLemmas
pub mod ThreadLemmas
mod SewingFacts
pub mod TiePointLemmas
pub mod OwnTieLemmas
pub mod ThreadTieLemmas
pub mod ThreadActLemmas
pub mod ThreadRangeLemmas
pub mod TieLawLemmas
mod TieFacts
mod CutLawFacts
mod TieLawFacts
mod ScaleFacts
