use Rattle.std.proofs.Common.{◌≡◌, ◌+◌, ◌<◌, length, reverse}
use Rattle.odd_paths.proofs.Names.{slice_index, IsEdgeWalk, edge_walk_cost}
use Rattle.odd_paths.proofs.walk_back.places.Given as goal

abbrev pub invariant-loop-at : goal.invariant-loop-at
invariant-loop-at l = record {
  inside : l.at < length l.row;
  walk : IsEdgeWalk l.edges l.at l.j (reverse l.places.items);
  cost : edge_walk_cost l.edges (reverse l.places.items) + slice_index l.row l.at ≡ slice_index l.row l.j;
}

abbrev pub decreases-loop-at : goal.decreases-loop-at
decreases-loop-at l = slice_index l.row l.at
