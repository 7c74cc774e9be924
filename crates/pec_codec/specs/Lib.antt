pub mod Coordinates
pub mod RecordBytes
pub mod Records
pub mod Header
-- read these first: what a block reads as, and what a design is written as
pub mod Reading
pub mod Writing
pub mod Steps
pub mod Laws
