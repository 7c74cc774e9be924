pub mod Names
pub mod FrontLemmas
mod FileFacts
pub mod BlockStates
pub mod FileLemmas
mod FileLawFacts
mod FileStateFacts
