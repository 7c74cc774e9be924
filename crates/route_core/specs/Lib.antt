-- Definitions of lower crates that public clauses cite.
pub use Rattle.odd_cuts.specs.Packings
pub use Rattle.line_graph.specs.PieceWalks
pub use Rattle.line_graph.specs.Runs
-- Used only inside this crate.
pub mod Distances
pub mod Copies
pub mod OddPairs
pub mod PieceCertificates
pub mod RoutedPieceCertificates
pub mod Routes
pub mod Doubles
-- Read this one first: the route of a drawing, and its double run.
pub mod SewnDrawings
