use Rattle.std.proofs.Common.{◌≡◌, ◌+◌, length}
use Rattle.odd_paths.proofs.Names.{EndsAreBelow, last_edge_from}
use Rattle.odd_paths.proofs.walk_back.last_edge.Given as goal

abbrev pub invariant-loop-rest : goal.invariant-loop-rest
invariant-loop-rest l = record {
  ends : EndsAreBelow (length l.row) l.rest;
  count : l.place + length l.rest ≡ length l.edges;
  same : last_edge_from l.row l.j l.place l.rest ≡ last_edge_from l.row l.j 0 l.edges;
}

abbrev pub decreases-loop-rest : goal.decreases-loop-rest
decreases-loop-rest l = length l.rest
