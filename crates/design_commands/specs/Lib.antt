-- Definitions of a lower crate that public clauses cite.
pub use Rattle.program_texts.specs.MistakenWords
pub use Rattle.program_texts.specs.CompanionUsage
pub use Rattle.program_shell.specs.ProgramRuns
pub use Rattle.program_shell.specs.RunViews
pub mod Mistakes
pub mod LimitWords
pub mod EditRequests
pub mod Requests
pub mod Usage
pub mod PlaceTexts
pub mod LookTexts
pub mod ThreadTexts
pub mod DifferenceTexts
pub mod ReviewOrders
pub mod ThreadOrders
pub mod CompareOrders
pub mod DesignOutputs
pub mod EditOrders
-- Read this one first: the commands, their plans, and the program.
pub mod Commands
