pub mod Frames
pub mod Segments
-- Points that segments join, and how they are found.
pub mod Joints
pub mod JoinedPoints
-- What lies between two points across a direction.
pub mod Strips
-- Read this one first: points near a segment, and crossings.
pub mod Meetings
