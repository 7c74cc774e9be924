pub mod Names
mod BoundsFacts
mod BoundsLemmas
mod CopyLemmas
mod CoreFacts
mod CoreLemmas
mod IndexFacts
mod IndexLemmas
mod JointLemmas
mod KnownFacts
mod KnownLemmas
mod MeetingFacts
mod OutlineFacts
mod OutlineLemmas
mod StripLemmas
mod StripLists
mod TellingLemmas
mod TouchLemmas
