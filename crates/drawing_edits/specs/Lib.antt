-- Read this one first: the moved, shifted, turned, mirrored and centred drawing.
pub mod MovedDrawings
-- The drawing that is drawn from given lines, or the first fault.
pub mod RedrawnDrawings
-- The faults of edits.
pub mod EditFaults
-- Starts and ends at given points.
pub mod PlacedEnds
-- A piece sewn before another.
pub mod PieceOrders
-- Edits and their results.
pub mod EditedDrawings
-- What edits keep of starts and ends.
pub mod KeptEnds
-- What is drawn again as it is.
pub mod ValidRedraws
