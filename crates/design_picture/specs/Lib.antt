-- read this one first: what the picture of a design is
pub mod Pictures
pub mod PlainPictures
pub mod Layouts
pub mod Hoops
pub mod Captions
pub mod Layers
pub mod StrokeMarks
pub mod Threads
pub mod Crowds
-- The strokes of a design, which the layers show.
pub mod Strokes
pub mod Pens
pub mod ShownActs
-- How often a stitch was sewn before, and how that is kept.
pub mod Passes
pub mod KeptPasses
pub mod ArrowSquares
