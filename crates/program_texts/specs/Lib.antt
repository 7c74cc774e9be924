-- The texts of refusals. Read DrawingTexts first.
pub mod DesignTexts
pub mod DrawingTexts
pub mod UsageText
-- The reports.
pub mod DesignReports
pub mod TracingReports
pub mod MigrationReports
-- What the programs beside stitch say of their arguments.
pub mod MistakenWords
pub mod CompanionUsage
