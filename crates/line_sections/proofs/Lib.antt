pub mod Names
pub mod CallerLemmas
mod LineFacts
mod SectionFacts
mod MarkFacts
mod SpotLemmas
mod SectionLemmas
mod WholeLemmas
mod CutLemmas
