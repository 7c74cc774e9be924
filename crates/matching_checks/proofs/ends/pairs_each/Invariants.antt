use Rattle.std.proofs.Common.{◌≡◌, ℕ, ◌<◌}
use Rattle.blossom_match.specs.Matchings.{pair_ends_at}
use Rattle.matching_checks.proofs.ends.pairs_each.Given as goal

-- each place so far is an end exactly once
abbrev pub invariant-loop-x : goal.invariant-loop-x
invariant-loop-x l = (z : ℕ) → z < l.x → pair_ends_at l.pairs z ≡ 1
