use Rattle.std.proofs.Common.{◌≡◌, All, false, take}
use Rattle.blossom_match.specs.Matchings.{moat_holds}
use Rattle.matching_checks.proofs.moats.lies_beside.Given as goal

-- the members so far are no members of the other
abbrev pub invariant-loop-x : goal.invariant-loop-x
invariant-loop-x l = All (λ x. moat_holds l.k x ≡ false) (take l.x-index l.m.members)
