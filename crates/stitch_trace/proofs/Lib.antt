pub mod Names
pub mod TraceFacts
mod LawFacts
pub mod MoveLemmas
pub mod StrandLemmas
pub mod MeasureLemmas
pub mod LabelLemmas
pub mod LinkedLemmas
pub mod DrawnLemmas
pub mod DistinctLemmas
pub mod FitLemmas
pub mod LimitLemmas
pub mod CountLemmas
pub mod StepLemmas
mod TracingFacts
