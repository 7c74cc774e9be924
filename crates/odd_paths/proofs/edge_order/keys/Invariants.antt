use Rattle.std.proofs.Common.{◌≡◌, ◌+◌, length}
use Rattle.odd_paths.proofs.Names.{EndsAreBelow}
use Rattle.odd_paths.proofs.edge_order.keys.Given as goal

-- a number for each edge so far
abbrev pub invariant-loop-rest : goal.invariant-loop-rest
invariant-loop-rest l = record {
  ends : EndsAreBelow (length l.row) l.rest;
  count : l.place + length l.rest ≡ length l.edges;
  size : length l.keys.items ≡ l.place;
}

abbrev pub decreases-loop-rest : goal.decreases-loop-rest
decreases-loop-rest l = length l.rest
