use Rattle.std.proofs.Common.{◌≡◌, ◌++◌, drop}
use Rattle.meeting_rounds.specs.MovedPoints.{points_moved}
use Rattle.meeting_rounds.proofs.moved_points.moved_line.Given as goal

-- the points so far, and those that are left
abbrev pub invariant-loop-p : goal.invariant-loop-p
invariant-loop-p l = l.moved ++ points_moved l.gap l.moves l.block (drop l.p-index l.points)
    ≡ points_moved l.gap l.moves l.block l.points
