pub mod Names
pub mod CommandAddingLemmas
pub mod PointLemmas
pub mod HeaderLemmas
mod RecordFacts
mod RoundTripFacts
mod TwosComplementFacts
pub mod WriterLemmas
pub mod rereading
mod StateFacts
mod RoundTripLawFacts
