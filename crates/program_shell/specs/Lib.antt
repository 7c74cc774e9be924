pub mod FileTexts
pub mod Messages
pub mod Puts
pub mod Products
pub mod Plans
pub mod Programs
pub mod RunViews
pub mod RunFailures
-- Read ProgramRuns first: what each exit status guarantees.
pub mod ProgramRuns
pub mod StepOutcomes
pub mod FinishedRuns
pub mod ExactPlans
pub mod PutSteps
pub mod ExitCodes
