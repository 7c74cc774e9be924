-- Definitions of a lower crate that public clauses cite.
pub use Rattle.program_texts.specs.MistakenWords
pub use Rattle.program_texts.specs.CompanionUsage
pub use Rattle.program_shell.specs.ProgramRuns
pub use Rattle.program_shell.specs.RunViews
pub mod Usage
pub mod Mistakes
pub mod FaultTexts
pub mod Looks
pub mod WholeProducts
pub mod CutProducts
pub mod MeetFaults
pub mod TextsRead
pub mod VersionOne
pub mod TextPlans
pub mod MeetOrders
pub mod SpaceOrders
pub mod FreeOrders
pub mod NearFiles
pub mod DrawingEditWords
pub mod EditComments
pub mod DrawingEditing
pub mod TextCommands
pub mod Names
pub mod SpaceWords
pub mod Requests
-- Read this one first: the commands, their plans, and the program.
pub mod Commands
