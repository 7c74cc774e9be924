mod RunFacts
mod WriteLemmas
