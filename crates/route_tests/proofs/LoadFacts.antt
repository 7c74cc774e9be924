-- Loads of moats over terminals: those that are too high.
use Rattle.std.proofs.Common.{ℕ, ◌≤◌, List, [], ◌∷◌, arith}
use Rattle.blossom_match.specs.declared.matching.Moat.{Moat}
use Rattle.odd_paths.specs.LeastRows.{RowsValue}
use Rattle.route_tests.specs.MoatLoads.{KeepsLoads, KeepsLoadsFrom}

-- two terminals, at the ends of a line of 4 steps
abbrev rows : RowsValue
rows = record { terminals = 0 ∷ 2 ∷ []; table = (0 ∷ 1 ∷ 4 ∷ []) ∷ (4 ∷ 3 ∷ 0 ∷ []) ∷ [] }

abbrev around : ℕ → ℕ → List Moat
around first second = record { members = 0 ∷ []; width = first } ∷ record { members = 1 ∷ []; width = second } ∷ []

more : 9 ≤ 8 → ⊥
more less = omega (arith, less)

-- nine halves are too many, from either side
pub known_loads : (KeepsLoads rows (0 ∷ 2 ∷ []) (around 4 5) → ⊥) × (KeepsLoadsFrom rows (0 ∷ 2 ∷ []) (around 4 5) 0 → ⊥)
    × (KeepsLoadsFrom rows (0 ∷ 2 ∷ []) (around 4 5) 1 → ⊥)
known_loads = (
  λ keeps. more (keeps 1 0 (omega arith) (omega arith)),
  λ keeps. more (keeps 1 (omega arith)),
  λ keeps. more (keeps 0 (omega arith)),
)
