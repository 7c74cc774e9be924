pub mod FloatCuts
pub mod CarriedTrims
pub mod Merges
pub mod Beans
pub mod Scales
pub mod ScaleSteps
pub mod Centres
pub mod EmptyBlocks
pub mod EmptyBlockSteps
-- Read ThreadTies first: what it is to tie threads, and to take ties away.
pub mod TiePoints
pub mod ThreadTies
pub mod ThreadRanges
pub mod TieTheorems
