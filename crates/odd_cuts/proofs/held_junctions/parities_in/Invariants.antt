use Rattle.std.proofs.Common.{◌≡◌, ◌+◌, ◌++◌, length}
use Rattle.odd_cuts.proofs.Names.{parities_from}
use Rattle.odd_cuts.proofs.held_junctions.parities_in.Given as goal

-- the parities so far and those of the degrees that are left are those of all degrees
abbrev pub invariant-loop-rest : goal.invariant-loop-rest
invariant-loop-rest l = record {
  count : l.at + length l.rest ≡ length l.degrees;
  sized : length l.parities.items ≡ l.at;
  parities : l.parities.items ++ parities_from l.from l.to l.at l.rest ≡ parities_from l.from l.to 0 l.degrees;
}

abbrev pub decreases-loop-rest : goal.decreases-loop-rest
decreases-loop-rest l = length l.rest
