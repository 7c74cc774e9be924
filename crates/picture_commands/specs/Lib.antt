-- Definitions of a lower crate that public clauses cite.
pub use Rattle.program_texts.specs.MistakenWords
pub use Rattle.program_texts.specs.CompanionUsage
-- Read this one first: the orders of the program.
pub mod Orders
pub mod Pictures
pub mod DrawnPictures
pub mod Proofs
pub mod Names
pub mod SizeWords
pub mod Words
pub mod ParsedWords
pub mod Mistakes
pub mod Usage
