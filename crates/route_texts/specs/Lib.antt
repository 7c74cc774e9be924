pub mod Reasons
-- Read SewingReports first: the reports of `route` and `double`.
pub mod PieceReports
pub mod SewingReports
pub mod Summaries
pub mod PieceSums
pub mod OddCounts
