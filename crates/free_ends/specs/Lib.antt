-- Read this one first: what the best ends of a walk are.
pub mod BestWalkEnds
-- What is found of the ends of pieces, and freed drawings.
pub mod PieceEnds
pub mod FreedDrawings
pub mod FreedLaws
-- How the best ends are found.
pub mod EndDistances
pub mod Mates
