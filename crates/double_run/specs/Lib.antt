-- Read this one first: what a double walk is.
pub mod DoubleWalks
-- The modules of the algorithm: the traversal and its steps.
pub mod Traversals
pub mod TraversalSteps
