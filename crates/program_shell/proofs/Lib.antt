pub mod Names
mod PutLemmas
mod DeliveryLemmas
mod RunOutcomes
mod DecisionLemmas
mod KeepLemmas
mod RunLemmas
pub mod CallerLemmas
mod ShellFacts
mod OutcomeFacts
mod PutFacts
mod StepFacts
mod InputFacts
mod FinishFacts
