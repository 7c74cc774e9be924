mod SegmentLemmas
mod TextFacts
mod DesignFacts
mod TracingFacts
mod BoundaryLemmas
mod CompanionFacts
