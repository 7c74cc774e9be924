pub mod Names
pub mod CallerLemmas
mod Sums
mod Crossing
mod Degrees
mod Duality
mod DrawnCutLemmas
mod Totals
mod TableLemmas
mod PlaceLemmas
mod ParityLemmas
mod LoadLemmas
mod ExactWalks
mod ExactCuts
mod WalkFaultFacts
mod CutFaultFacts
mod PackingFacts
mod TableFacts
