-- Which stitches of a line are short.
pub mod Spacings
-- The lines of places.
pub mod PlaceTexts
-- The shortest and the longest stitch of lines.
pub mod LengthSpans
-- What `snap` and `cross` did to lines, and `space`.
pub mod MeetingTexts
pub mod SpaceTexts
-- The report of the best ends.
pub mod FreeTexts
-- Read this one first: the report of places.
pub mod LookTexts
