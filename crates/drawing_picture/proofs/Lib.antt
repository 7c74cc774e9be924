pub mod Names
mod ZipLemmas
mod BandFacts
mod BandLemmas
mod CertificateLemmas
mod FaultLemmas
mod MarkLemmas
mod DrawnLemmas
mod DrawnFacts
mod GridLemmas
mod LabelLemmas
mod LabelLawLemmas
mod RuleFacts
mod LawFacts
mod WholeDrawingFacts
mod WholeProofFacts
