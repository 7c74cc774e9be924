pub mod Counts
pub mod Blames
-- Read Files, Views and Causes first: files, the views of stores and sinks, and the results of
-- calls.
pub mod Files
pub mod Views
pub mod Causes
pub mod FileParts
pub mod MemEntries
pub mod MemStores
pub mod EntryIndexes
pub mod MemSinks
pub mod Streams
