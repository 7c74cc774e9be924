use Rattle.std.proofs.Common.{◌≤◌}
use Rattle.near_pieces.specs.Changes.{IsTracks}
use Rattle.near_pieces.proofs.local_search.settle.Given as goal

-- The order so far is measured, and its travel is no more than before.
abbrev pub invariant-loop-tracks : goal.invariant-loop-tracks
invariant-loop-tracks l = record {
  tracks : IsTracks l.visits l.start l.tracks;
  no_more : l.tracks.best.travel ≤ l.fn.best.travel;
}

abbrev pub decreases-loop-tracks : goal.decreases-loop-tracks
decreases-loop-tracks l = l.tracks.best.travel
