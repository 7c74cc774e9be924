use Rattle.std.proofs.Common.{◌≤◌, ◌+◌, ◌-◌}
use Rattle.near_pieces.specs.Changes.{AreLeastReversed}
use Rattle.near_pieces.proofs.changes.less_reversed.Given as goal

-- The runs so far are tried.
abbrev pub invariant-loop-j : goal.invariant-loop-j
invariant-loop-j l = record {
  tried : AreLeastReversed l.visits l.start l.tracks.best l.i l.j;
  after : l.i + 1 ≤ l.j;
}

abbrev pub decreases-loop-j : goal.decreases-loop-j
decreases-loop-j l = l.end - l.j
