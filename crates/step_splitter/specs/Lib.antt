-- Read this one first: how many steps a segment has, and where they end.
pub mod Steps
pub mod Chains
pub mod Refits
pub mod RefitSteps
