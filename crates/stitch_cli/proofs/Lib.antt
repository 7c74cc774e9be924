pub mod Names
mod EditLemmas
mod ChangeFacts
mod ChangeResultFacts
mod ChangeLemmas
mod CommandLemmas
mod FormatLemmas
mod RewriteLemmas
mod SewnDesigns
mod SewingLemmas
mod SampleLemmas
mod OrderFacts
mod PlanFacts
mod HoopFacts
mod RouteFacts
mod TextFacts
mod SampleFacts
mod WantFacts
mod RefutedFacts
mod ProductFacts
mod WholeProductFacts
mod PieceSizes
mod CertificateLengths
mod HeadlineLemmas
mod HeadlineFacts
pub mod SquareRoute
pub mod SmallestFacts
pub mod RouteLeftFacts
pub mod RefutedRouteFacts
mod RefutedRunFacts
mod StitchRunFacts
mod StitchRunLemmas
