-- Used only inside this crate, as are SegmentPlaces and PlacedPoints.
pub mod PlaceNumbers
pub mod PointBounds
pub mod TrackedLines
pub mod Puts
pub mod FilledLines
pub mod SegmentPlaces
pub mod MovedPoints
pub mod PlacedPoints
pub mod PinnedSpots
pub mod Acts
-- Read this one first: lines after rounds.
pub mod Rounds
pub mod NearLines
pub mod RoundLaws
