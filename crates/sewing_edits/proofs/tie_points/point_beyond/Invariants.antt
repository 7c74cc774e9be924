use Rattle.std.proofs.Common.{◌≡◌, ◌≤◌}
use Rattle.sewing_edits.specs.TiePoints.{point_beyond}
use Rattle.sewing_edits.proofs.tie_points.point_beyond.Given as goal

-- the first point that is far is after one of the parts that are left
abbrev pub invariant-loop-left : goal.invariant-loop-left
invariant-loop-left l = record {
  few : l.left ≤ l.n;
  found : point_beyond l.length l.p l.from l.to l.n l.n ≡ point_beyond l.length l.p l.from l.to l.n l.left;
}

abbrev pub decreases-loop-left : goal.decreases-loop-left
decreases-loop-left l = l.left
