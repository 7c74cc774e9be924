-- Read this one first: what a shift keeps.
pub mod ShiftLaws
-- What turns and mirrorings keep.
pub mod CostLaws
-- Moved drawings that edits draw exactly.
pub mod MoveLaws
