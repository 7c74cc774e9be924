-- Definitions of lower crates that public clauses cite.
pub use Rattle.odd_cuts.specs.Packings
pub use Rattle.line_graph.specs.PieceWalks
pub use Rattle.line_graph.specs.Runs
-- Used only inside this crate.
pub mod SewingSteps
pub mod ActSteps
-- The first act of a design that differs from the sewn ones.
pub mod ActOrder
-- Read this one first: what a yes means.
pub mod LeastRedwork
-- The verdict on a drawing, a design and a certificate.
pub mod Verdicts
pub mod VerdictTheorems
