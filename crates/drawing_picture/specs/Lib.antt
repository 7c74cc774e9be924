-- Read this one first: the bands of cuts on lines.
pub mod Bands
pub mod BandLaws
pub mod BandTexts
-- The picture of a drawing and its certificate.
pub mod ProofPictures
pub mod CheckedProofs
-- The picture of a drawing.
pub mod DrawingPictures
pub mod DrawingCaptions
pub mod LinePaths
pub mod Grids
pub mod Labels
pub mod LabelOrders
pub mod LabelTexts
pub mod LabelLaws
pub mod PlaceMarks
pub mod JunctionMarks
pub mod DrawnLaws
pub mod TestedMarks
