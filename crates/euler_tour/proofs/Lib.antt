pub mod Names
pub mod CallerLemmas
pub mod WalkLemmas
pub mod LeftLemmas
pub mod EndLemmas
pub mod CursorLemmas
pub mod TripLemmas
pub mod TourLemmas
pub mod StepLemmas
pub mod TourFacts
pub mod PassFacts
mod TourStepFacts
