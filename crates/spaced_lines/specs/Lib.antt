pub mod SpacingRules
pub mod Choices
pub mod BestChoices
pub mod SpacedLines
pub mod SpacedDrawings
pub mod SpacingLaws
pub mod SpacedAnswers
