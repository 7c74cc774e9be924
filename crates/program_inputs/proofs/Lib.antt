mod LoadingFacts
mod FoundFacts
pub mod LoadLemmas
mod FaultLemmas
pub mod CallerLemmas
mod CertificateFacts
