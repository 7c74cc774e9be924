-- Definitions of a lower crate that public clauses cite.
pub use Rattle.drawing_text.specs.DrawingText
pub use Rattle.drawing_text.specs.DrawnTexts
-- Read this one first: the comments of a text, and a text with comments.
pub mod CommentedTexts
-- Theorems over these definitions.
pub mod CommentLaws
pub mod MovedComments
pub mod OrderedComments
