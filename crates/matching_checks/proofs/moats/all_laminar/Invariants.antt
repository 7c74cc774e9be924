use Rattle.std.proofs.Common.{take}
use Rattle.std.specs.List.{AllPairs}
use Rattle.blossom_match.specs.Matchings.{AreLaminar}
use Rattle.matching_checks.proofs.moats.all_laminar.Given as goal

-- the moats so far are laminar
abbrev pub invariant-loop-i : goal.invariant-loop-i
invariant-loop-i l = AllPairs AreLaminar (take l.i l.moats)
