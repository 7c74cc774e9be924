-- Definitions of the crates below that public clauses use.
pub use Rattle.command_words.specs.Changes
pub use Rattle.command_words.specs.Requests
pub use Rattle.certificate_text.specs.CertificateTexts
pub use Rattle.program_shell.specs.FileTexts
pub use Rattle.program_shell.specs.Messages
pub use Rattle.program_shell.specs.Plans
pub use Rattle.program_shell.specs.Products
pub use Rattle.program_shell.specs.Programs
pub use Rattle.program_shell.specs.Puts
pub use Rattle.program_shell.specs.RunViews
pub use Rattle.program_shell.specs.RunFailures
-- Read Headline first; then ProgramRuns of program_shell, the guarantees of each exit status; then
-- Commands and what it names.
pub use Rattle.program_shell.specs.ProgramRuns
pub use Rattle.program_texts.specs.DesignReports
pub use Rattle.program_texts.specs.DesignTexts
pub use Rattle.program_texts.specs.DrawingTexts
pub use Rattle.program_texts.specs.MigrationReports
pub use Rattle.program_texts.specs.TracingReports
pub use Rattle.program_texts.specs.UsageText
pub use Rattle.route_texts.specs.PieceReports
pub use Rattle.route_texts.specs.PieceSums
pub use Rattle.route_texts.specs.Reasons
pub use Rattle.route_texts.specs.SewingReports
pub use Rattle.route_texts.specs.Summaries
-- What a design becomes between reading and writing.
pub mod ChangedDesigns
pub mod AppliedChanges
pub mod ChangeSteps
pub mod Sewings
pub mod SewingWays
pub mod Checks
pub mod Samples
pub mod Migrations
pub mod Tracings
pub mod Shows
pub mod Hoops
pub mod Rewrites
pub mod Commands
-- What is left after `route`, and what a yes says.
pub mod Headline
-- What a run guarantees with the five formats.
pub mod StitchRuns
pub mod RewriteSteps
