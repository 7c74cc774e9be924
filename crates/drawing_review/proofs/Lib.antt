mod JoinedFacts
mod JointLemmas
mod SegmentFacts
mod StripFacts
