-- Optimality of a matching whose moats pay for it.
use Rattle.std.specs.Prelude.{◌≤◌, List}
use Rattle.blossom_match.specs.Matchings.{pairs_cost, IsOptimalMatching, IsPerfectMatching}
use Rattle.odd_sets.specs.TableValue.{TableValue}
use Rattle.blossom_match.specs.declared.matching.Moat.{Moat}
use Rattle.blossom_match.specs.declared.matching.Pair.{Pair}

-- No perfect matching costs less than one whose moats are a feasible dual solution of twice its
-- cost.
abbrev pub NoneCostsLess : Type 0
NoneCostsLess = (t : TableValue) (pairs : List Pair) (moats : List Moat)
    → IsOptimalMatching t pairs moats
    → (others : List Pair) → IsPerfectMatching t.places others
    → pairs_cost t pairs ≤ pairs_cost t others
