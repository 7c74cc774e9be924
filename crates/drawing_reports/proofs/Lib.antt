pub mod PlaceLemmas
mod LookFacts
mod ReportFacts
mod SpacingFacts
