-- Used by Meetings alone.
pub mod Parts
pub mod Bounds
pub mod Touches
pub mod Queries
pub mod Joints
pub mod Telling
-- Read this one first: where lines of a block should meet and don't.
pub mod Meetings
-- Used only inside this crate.
pub mod IndexedParts
pub mod Cores
pub mod Outlines
pub mod KnownPoints
pub mod Sorting
