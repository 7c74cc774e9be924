pub mod GrowingSinks
pub mod FileLists
pub mod NameLists
pub mod TaskStores
-- Where a run of a task begins.
pub mod TaskViews
pub mod Replies
-- Read this file first: what a call returns.
pub mod Outcomes
-- How tasks and replies are bytes.
pub mod Packing
-- What is read of bytes.
pub mod TaskReading
pub mod TaskValues
