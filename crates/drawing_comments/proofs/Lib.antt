pub mod SpokenLemmas
pub mod CommentLemmas
pub mod MovedLemmas
pub mod OrderedLemmas
mod CommentFacts
mod OrderFacts
mod CommentLawFacts
