-- Used only inside this crate.
pub mod ListedMeetings
pub mod MeetingCounts
-- Read this one first: drawings whose lines meet.
pub mod MetDrawings
pub mod PassedSegments
-- Read this one first: lines without copies of segments.
pub mod Copies
pub mod SegmentLaws
-- Read this one next: laws of what is written.
pub mod MeetLaws
