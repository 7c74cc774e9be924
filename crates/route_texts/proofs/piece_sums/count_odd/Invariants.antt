use Rattle.std.proofs.Common.{◌≡◌, ◌+◌, ◌≤◌, length}
use Rattle.route_texts.specs.OddCounts.{odd_number}
use Rattle.route_texts.proofs.piece_sums.count_odd.Given as goal

-- the odd junctions so far and those of the degrees that are left are all
abbrev pub invariant-loop-rest : goal.invariant-loop-rest
invariant-loop-rest l = record {
  places : l.at + length l.rest ≡ length l.degrees;
  few : l.count ≤ l.at;
  sum : l.count + odd_number l.from l.to l.at l.rest ≡ odd_number l.from l.to 0 l.degrees;
}

abbrev pub decreases-loop-rest : goal.decreases-loop-rest
decreases-loop-rest l = length l.rest
