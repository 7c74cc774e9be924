use Rattle.std.proofs.Common.{◌≤◌, length}
use Rattle.near_pieces.proofs.NearLemmas.{GoesOn}
use Rattle.near_pieces.proofs.near_lines.near_lines.Given as goal

-- The runs so far are in near orders.
abbrev pub invariant-loop-rest : goal.invariant-loop-rest
invariant-loop-rest l = record {
  on : GoesOn l.lines l.fn.pieces l.rest l.near;
  few : length l.rest ≤ 1024;
}

abbrev pub decreases-loop-rest : goal.decreases-loop-rest
decreases-loop-rest l = length l.rest
