-- Travel through places in an order.
pub mod Visits
-- Changes of an order that make the travel less.
pub mod OrderChanges
-- All orders of the places that are left.
pub mod VisitOrders
-- Pieces as places to be visited.
pub mod PiecePlaces
-- Runs of pieces of one block.
pub mod PieceRuns
-- The lines and the starts of pieces in an order.
pub mod NearLines
-- Used only inside this crate.
pub mod Nodes
pub mod Stops
pub mod Changes
pub mod NearSteps
-- Laws: what stays of the pieces.
pub mod NearPieceLaws
-- Read this one first: a drawing whose pieces are sewn near each other.
pub mod NearDrawings
