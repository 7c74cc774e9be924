-- Definitions of the crates below that public clauses use.
pub use Rattle.blossom_match.specs.Matchings
pub use Rattle.odd_cuts.specs.Packings
-- Read this one first: which moats are lifted, and what the cuts are.
pub mod Lifts
-- The modules of lifting.
pub mod Levels
pub mod TerminalStates
pub mod MoatDistances
pub mod MoatCuts
