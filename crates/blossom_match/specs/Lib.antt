-- Read this one first: a perfect matching with moats that prove it optimal.
pub mod Matchings
pub mod LeastMatchings
-- The modules of the search.
pub mod Taken
pub mod Searches
pub mod LeastChanges
pub mod Duals
pub mod OuterSlacks
pub mod Candidates
pub mod Masks
pub mod States
pub mod Phases
pub mod InitialDuals
