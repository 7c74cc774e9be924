use Rattle.std.proofs.Common.{◌≡◌, ◌++◌, length}
use Rattle.spaced_lines.specs.BestChoices.{kept_by}
use Rattle.spaced_lines.proofs.point_choice.kept_points.Given as goal

-- the points kept so far, and those that are kept of the points that are left
abbrev pub invariant-loop-rest : goal.invariant-loop-rest
invariant-loop-rest l = l.kept ++ kept_by l.left l.rest l.later ≡ kept_by 0 l.points l.bests

abbrev pub decreases-loop-rest : goal.decreases-loop-rest
decreases-loop-rest l = length l.rest
