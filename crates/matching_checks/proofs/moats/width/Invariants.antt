use Rattle.std.proofs.Common.{◌≡◌, ◌-◌, ◌^◌, min, take}
use Rattle.blossom_match.specs.Matchings.{width_of}
use Rattle.matching_checks.proofs.moats.width.Given as goal

-- the widths so far
abbrev pub invariant-loop-moat : goal.invariant-loop-moat
invariant-loop-moat l = l.sum ≡ min (width_of (take l.moat-index l.moats)) (2 ^ 64 - 1)
