use Rattle.std.proofs.Common.{◌≡◌, ◌+◌, ◌++◌, length}
use Rattle.cut_certificate.proofs.Names.{members_from}
use Rattle.cut_certificate.proofs.moat_cuts.members_to.Given as goal

-- with those of the levels that are left, the members so far are all
abbrev pub invariant-loop-rest : goal.invariant-loop-rest
invariant-loop-rest l = record {
  count : l.junction + length l.rest ≡ length l.levels;
  same : l.members ++ members_from l.junction l.limit l.rest ≡ members_from 0 l.limit l.levels;
}

abbrev pub decreases-loop-rest : goal.decreases-loop-rest
decreases-loop-rest l = length l.rest
