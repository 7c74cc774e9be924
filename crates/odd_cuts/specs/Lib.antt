pub mod Cuts
-- Read this one first: what a packing of odd cuts is.
pub mod Packings
pub mod PackingBounds
-- Packings over the lines of a drawing, without a graph.
pub mod DrawnCuts
pub mod Certificates
pub mod Faults
pub mod WalkFaults
pub mod CutFaults
-- The tables of the checks.
pub mod CheckTables
pub mod FaultTheorems
