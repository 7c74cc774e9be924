-- The ends of pairs.
use Rattle.std.specs.Prelude.{ℕ, ◌<◌, List, All}
use Rattle.blossom_match.specs.declared.matching.Pair.{Pair}

-- Both ends of each pair are places below n.
abbrev pub EndsBelow : ℕ → List Pair → Type 0
EndsBelow n pairs = All (λ (p : Pair). (p.a < n) × (p.b < n)) pairs
