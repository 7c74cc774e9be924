pub mod Names
pub mod MovedLines
pub mod MovedWalks
pub mod MovedPieces
pub mod MovedActs
pub mod MovedCosts
pub mod ShiftLemmas
pub mod TurnLemmas
pub mod MovedJoints
pub mod MoveLemmas
mod LawFacts
mod MoveFacts
