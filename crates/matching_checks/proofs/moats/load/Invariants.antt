use Rattle.std.proofs.Common.{◌≡◌, ◌-◌, ◌^◌, min, take}
use Rattle.blossom_match.specs.Matchings.{moat_load}
use Rattle.matching_checks.proofs.moats.load.Given as goal

-- the load of the moats so far
abbrev pub invariant-loop-moat : goal.invariant-loop-moat
invariant-loop-moat l = l.sum ≡ min (moat_load (take l.moat-index l.moats) l.a l.b) (2 ^ 64 - 1)
