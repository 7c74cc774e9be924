use Rattle.std.proofs.Common.{◌≡◌, length}
use Rattle.step_splitter.specs.Chains.{IsNeedlePoint}
use Rattle.sewing_edits.specs.ThreadRanges.{AreNeedlesInRange}
use Rattle.sewing_edits.specs.TiePoints.{point_along}
use Rattle.sewing_edits.proofs.tie_points.point_along.Given as goal

-- the needles that are left decide
abbrev pub invariant-loop-left : goal.invariant-loop-left
invariant-loop-left l = record {
  before : IsNeedlePoint l.before;
  left : AreNeedlesInRange l.left;
  found : point_along l.length l.p l.before l.left ≡ point_along l.length l.p l.p l.rest;
}

abbrev pub decreases-loop-left : goal.decreases-loop-left
decreases-loop-left l = length l.left
