use Rattle.std.proofs.Common.{◌<◌, ◌≤◌, ◌-◌, ℕ}
use Rattle.near_pieces.specs.Changes.{AreLeastMovedPast}
use Rattle.near_pieces.proofs.changes.less_moved.Given as goal

-- The runs so far are tried.
abbrev pub invariant-loop-j : goal.invariant-loop-j
invariant-loop-j l = record {
  tried : (m : ℕ) → l.i < m → m ≤ l.j → AreLeastMovedPast l.visits l.start l.tracks.best l.i m l.end;
  after : l.i ≤ l.j;
}

abbrev pub decreases-loop-j : goal.decreases-loop-j
decreases-loop-j l = l.end - l.j
