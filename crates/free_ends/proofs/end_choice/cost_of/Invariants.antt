use Rattle.std.proofs.Common.{◌≡◌, ◌+◌, ◌<◌, ◌≤◌, length, ℕ}
use Rattle.free_ends.proofs.Names.{pair_ends_at, pairs_cost}
use Rattle.free_ends.proofs.end_choice.cost_of.Given as goal

abbrev pub invariant-loop-pair : goal.invariant-loop-pair
invariant-loop-pair l = record {
  there : (x : ℕ) → 1 ≤ pair_ends_at l.rest x → x < l.table.places;
  whole : l.cost + pairs_cost l.table l.rest ≡ pairs_cost l.table l.pairs;
}

abbrev pub decreases-loop-pair : goal.decreases-loop-pair
decreases-loop-pair l = length l.rest
