use Rattle.std.proofs.Common.{◌≡◌, ◌≤◌, ◌+◌, length, get_or, false}
use Rattle.odd_cuts.proofs.Names.{odd_among}
use Rattle.odd_cuts.proofs.held_junctions.count_odd.Given as goal

-- the odd members so far and those of the junctions that are left are all odd members
abbrev pub invariant-loop-rest : goal.invariant-loop-rest
invariant-loop-rest l = record {
  placed : l.at + length l.rest ≡ length l.parities;
  few : l.count ≤ l.at;
  counted : l.count + odd_among (λ j. get_or l.held j false) l.at l.rest ≡ odd_among (λ j. get_or l.held j false) 0 l.parities;
}

abbrev pub decreases-loop-rest : goal.decreases-loop-rest
decreases-loop-rest l = length l.rest
