pub mod Names
mod WholeLemmas
mod MeetLemmas
mod SpaceLemmas
pub mod DrawingEditLemmas
pub mod OrderEditLemmas
pub mod RequestLemmas
mod CommandLemmas
mod EditFacts
mod EditCommentFacts
mod MistakeFacts
mod ProductFacts
mod PlanFacts
pub mod VersionOneLemmas
