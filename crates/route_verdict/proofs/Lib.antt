pub mod Names
pub mod CallerLemmas
mod SewLemmas
mod ActOrderLemmas
mod SameActs
mod VerdictLemmas
mod RedworkLemmas
mod VerdictFacts
mod RedworkFacts
mod CorrectRouteFacts
mod SewingStepFacts
