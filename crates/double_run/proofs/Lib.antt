pub mod Names
mod LineLemmas
mod EndLemmas
mod MetLemmas
mod CursorLemmas
mod OutingLemmas
mod HomeLemmas
mod StepLemmas
mod DoubleFacts
mod TraversalFacts
