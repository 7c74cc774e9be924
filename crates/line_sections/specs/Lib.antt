pub mod Lines
pub mod Spots
-- Read this one first: where lines are cut, and the sections of a line.
pub mod Sections
-- Used only inside this crate.
pub mod ListedPoints
