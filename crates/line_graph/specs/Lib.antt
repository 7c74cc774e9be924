-- Definitions of lower crates that public clauses cite.
pub use Rattle.step_splitter.specs.Chains
pub use Rattle.step_splitter.specs.Steps
pub use Rattle.line_sections.specs.Lines
pub use Rattle.line_sections.specs.Spots
pub use Rattle.line_sections.specs.Sections
pub mod Needles
-- Read this one first: what a drawing is.
pub mod Drawings
pub mod LineNeedles
pub mod GrowingDrawings
pub mod JoinedDrawings
-- The junctions where walks must start and end.
pub mod WalkEnds
pub mod EndOrders
-- The maker of drawings, and that growing drawings keep their limits.
pub mod DrawingsOfParts
pub mod DrawingMakerInvariants
pub mod GrowingLimits
-- Pieces and walks over them.
pub mod Walks
pub mod Pieces
-- Read these two first: the graph of a piece, and the fitting and least walks over it.
pub mod PieceGraphs
pub mod ClosedDegrees
pub mod PieceWalks
pub mod ValidPieces
pub mod PiecesOfDrawings
pub mod Runs
pub mod SewnWalks
-- Walks as the needle sews them, without a graph.
pub mod DrawnWalks
pub mod UniquePieces
-- The junctions where walks must start and end.
pub mod ConnectedSpots
-- Used only inside this crate: the pieces.
pub mod LineLabels
pub mod FirstLines
pub mod PieceLabels
pub mod NextLines
-- Used only inside this crate: starts and ends.
pub mod EndsMakerInvariants
