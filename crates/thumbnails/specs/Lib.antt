-- read this one first: which points the thumbnails of a design light
pub mod Sketches
pub mod LitPoints
pub mod Scales
-- How points are packed into bytes.
pub mod Packings
-- What a reader makes of them.
pub mod Tails
pub mod Redrawings
