use Rattle.std.proofs.Common.{◌≡◌, ◌++◌, length}
use Rattle.meeting_rounds.specs.MovedPoints.{merged_from}
use Rattle.meeting_rounds.proofs.moved_points.merged_after.Given as goal

-- the points so far, and those that are left
abbrev pub invariant-loop-rest : goal.invariant-loop-rest
invariant-loop-rest l = l.merged ++ merged_from l.last l.rest ≡ merged_from l.fn.first l.after

abbrev pub decreases-loop-rest : goal.decreases-loop-rest
decreases-loop-rest l = length l.rest
