-- The summary of the stitches of lines.
pub mod StitchSummaries
-- Used only inside this crate.
pub mod GrowingSummaries
-- The travel between pieces.
pub mod Travels
-- Read this one first: the stitches of pieces, and the travel to each.
pub mod PieceStitches
