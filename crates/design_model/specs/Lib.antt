-- Whole numbers in texts, what calls that may lack memory result in, and lines of texts.
pub mod WholeNumbers
pub mod OutOfMemory
pub mod TextLines
pub mod Points
pub mod Lengths
pub mod Labels
pub mod Commands
-- Read Designs first: what a design is, and its limits.
pub mod Designs
pub mod LongerDesigns
pub mod Acts
pub mod ActKinds
pub mod ActPositions
pub mod ActScanners
pub mod Counts
pub mod Extents
pub mod Blocks
