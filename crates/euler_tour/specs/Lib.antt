-- Read this one first: what a tour is.
pub mod Tours
-- The ends of lines, for any walk.
pub mod LineEnds
-- Cursors over them.
pub mod Cursors
-- The modules of the algorithm: lines that remain, and partial tours.
pub mod RemainingLines
pub mod PartialTours
