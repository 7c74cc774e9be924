use Rattle.std.proofs.Common.{◌≡◌, ◌+◌, All, length}
use Rattle.route_core.proofs.Names.{IsPairOf, pair_costs}
use Rattle.route_core.proofs.piece_route.cost_of_pairs.Given as goal

-- what the pairs so far cost, with those that are left, is what all cost
abbrev pub invariant-loop-pair : goal.invariant-loop-pair
invariant-loop-pair l = record {
  there : All (IsPairOf l.rows) l.rest;
  whole : l.cost + pair_costs l.rows l.rest ≡ pair_costs l.rows l.pairs;
}

abbrev pub decreases-loop-pair : goal.decreases-loop-pair
decreases-loop-pair l = length l.rest
