pub mod Hops
pub mod Parts
pub mod Steps
pub mod Runs
pub mod Trims
pub mod Acts
pub mod Again
