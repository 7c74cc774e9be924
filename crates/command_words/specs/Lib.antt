pub mod Changes
pub mod Arguments
pub mod RefitFlags
-- Read Requests first: the requests, and the arguments that represent them.
pub mod Requests
pub mod Names
pub mod ValidNames
pub mod ValidRequests
pub mod Edits
