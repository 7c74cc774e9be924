use Rattle.std.proofs.Common.{◌≡◌, ◌-◌, ◌^◌, min, take}
use Rattle.blossom_match.specs.Matchings.{pairs_cost}
use Rattle.matching_checks.specs.Ends.{EndsBelow}
use Rattle.matching_checks.proofs.properties.cost.Given as goal

-- the distances so far
abbrev pub invariant-loop-p : goal.invariant-loop-p
invariant-loop-p l = EndsBelow l.t.places l.m.pairs → l.sum ≡ min (pairs_cost l.t (take l.p-index l.m.pairs)) (2 ^ 64 - 1)
