pub mod Draws
-- Read this one first: the sample drawing of a number.
pub mod Samples
-- Used only inside this crate.
pub mod Grids
pub mod GridLines
pub mod SampleRoom
