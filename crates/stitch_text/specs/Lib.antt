-- read this one first: what a design is written as
pub mod StitchLists
pub mod Steps
-- what a text reads as
pub mod Words
pub mod ListLines
pub mod Judging
pub mod Readings
pub mod Drafts
pub mod ListStages
pub mod Format
pub mod Laws
