pub mod Names
mod CopyLemmas
mod PathLemmas
mod PairLemmas
mod DistanceLemmas
mod LeastLemmas
mod MatchLemmas
mod PassLemmas
mod LeastCertLemmas
mod SewnPieces
mod DoubleLemmas
mod RouteLemmas
mod RouteFacts
mod CopyFacts
