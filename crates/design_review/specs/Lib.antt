pub mod BlockSummaries
pub mod FrameMoves
pub mod Ties
pub mod Holes
pub mod SewnActs
-- Used only inside this crate.
pub mod KeptLengths
pub mod OpenBlocks
pub mod NeedleKeys
pub mod KeyWindows
pub mod Crowds
-- Read this one first for a review: the places of a design that were probably not meant.
pub mod Places
pub mod KnownReviews
-- Read this one first for a comparison: the first difference of two designs.
pub mod Differences
pub mod Sameness
