mod CommandLemmas
mod FormatLemmas
pub mod Names
mod RequestFacts
mod TextFacts
mod OutputFacts
mod ReportFacts
mod PlanFacts
mod NamedFacts
