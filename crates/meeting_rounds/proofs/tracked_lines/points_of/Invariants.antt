use Rattle.std.proofs.Common.{◌≡◌, ◌++◌, drop, map}
use Rattle.meeting_rounds.specs.declared.tracked_lines.TrackedPoint.{TrackedPoint}
use Rattle.meeting_rounds.proofs.tracked_lines.points_of.Given as goal

-- the points so far, and those that are left
abbrev pub invariant-loop-p : goal.invariant-loop-p
invariant-loop-p l = l.points ++ map (λ (p : TrackedPoint). p.at) (drop l.p-index l.tracked) ≡ map (λ (p : TrackedPoint). p.at) l.tracked
