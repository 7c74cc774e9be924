use Rattle.std.proofs.Common.{◌≤◌, ◌-◌}
use Rattle.near_pieces.specs.Changes.{AreLeastMovedPast}
use Rattle.near_pieces.proofs.changes.less_moved_past.Given as goal

-- The runs so far are tried.
abbrev pub invariant-loop-k : goal.invariant-loop-k
invariant-loop-k l = record {
  tried : AreLeastMovedPast l.visits l.start l.tracks.best l.i l.j l.k;
  after : l.j ≤ l.k;
}

abbrev pub decreases-loop-k : goal.decreases-loop-k
decreases-loop-k l = l.end - l.k
