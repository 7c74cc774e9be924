pub mod SummaryLemmas
pub mod PieceLemmas
mod StitchFacts
mod SumFacts
