pub mod OddJunctions
-- Read this one first: least costs between the junctions of a piece.
pub mod LeastRows
pub mod CostTheorems
pub mod OddDegrees
pub mod EdgeWalks
pub mod Sweeps
pub mod LastEdges
pub mod Lanes
