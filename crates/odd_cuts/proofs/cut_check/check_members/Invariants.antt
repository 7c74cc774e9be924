use Rattle.std.proofs.Common.{◌≡◌, ◌<◌, ◌+◌, ◌^◌, length, All}
use Rattle.odd_cuts.proofs.Names.{stranger_fault}
use Rattle.odd_cuts.proofs.cut_check.check_members.Given as goal

-- the members so far are junctions
abbrev pub invariant-loop-rest : goal.invariant-loop-rest
invariant-loop-rest l = record {
  fit : All (λ j. j + 1 < 2 ^ 32) l.rest;
  faults : stranger_fault l.count l.number l.rest ≡ stranger_fault l.count l.number l.members;
}

abbrev pub decreases-loop-rest : goal.decreases-loop-rest
decreases-loop-rest l = length l.rest
