-- Definitions of a lower crate that public clauses cite.
pub use Rattle.line_graph.specs.Drawings
pub use Rattle.line_graph.specs.GrowingDrawings
pub use Rattle.line_graph.specs.GrowingLimits
pub use Rattle.line_graph.specs.JoinedDrawings
pub use Rattle.line_graph.specs.WalkEnds
pub mod Words
pub mod CanonicalTexts
pub mod EndTexts
pub mod TextLines
-- Read this one first: the drawing that a text describes, or its first fault.
pub mod DrawingText
pub mod ValidTexts
-- The lines of a text as they are drawn.
pub mod DrawnTexts
-- Both at once: the drawing, and the lines as they are drawn.
pub mod DrawingLines
-- Theorems over these definitions.
pub mod TextLaws
-- Used only inside this crate.
pub mod CoordinateWords
