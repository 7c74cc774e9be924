pub mod Bits
pub mod MoveEncoding
pub mod OneEncoding
pub mod Header
-- read these first: what a file reads as, and what a design is written as
pub mod Reading
pub mod Writing
pub mod KindDecoding
pub mod Steps
pub mod Format
pub mod Laws
pub mod Samples
