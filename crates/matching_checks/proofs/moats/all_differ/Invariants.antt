use Rattle.std.proofs.Common.{◌≢◌, take}
use Rattle.std.specs.List.{AllPairs}
use Rattle.matching_checks.proofs.moats.all_differ.Given as goal

-- the members so far differ
abbrev pub invariant-loop-i : goal.invariant-loop-i
invariant-loop-i l = AllPairs (λ x y. x ≢ y) (take l.i l.members)
