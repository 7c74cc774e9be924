-- Read Rewrites first: what a rewritten design is.
pub mod Rewrites
pub mod Threads
pub mod OrderedActs
pub mod WrittenActs
