use Rattle.std.proofs.Common.{◌≡◌, ◌-◌, ◌^◌, min, take}
use Rattle.blossom_match.specs.Matchings.{pair_ends_at}
use Rattle.matching_checks.proofs.ends.ends.Given as goal

-- the count so far
abbrev pub invariant-loop-p : goal.invariant-loop-p
invariant-loop-p l = l.count ≡ min (pair_ends_at (take l.p-index l.pairs) l.x) (2 ^ 64 - 1)
