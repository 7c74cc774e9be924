pub mod Files
pub mod Fronts
pub mod FileStates
pub mod StageProps
pub mod Reading
pub mod Writing
-- read this one first: what the two formats mean
pub mod Formats
pub mod Laws
