use Rattle.std.proofs.Common.{◌≡◌, ◌++◌, drop}
use Rattle.met_drawings.specs.MeetingCounts.{points_worked}
use Rattle.met_drawings.proofs.meeting_counts.points_worked_on.Given as goal

-- the points so far, and those of the lines that are left
abbrev pub invariant-loop-line : goal.invariant-loop-line
invariant-loop-line l = l.points ++ points_worked (drop l.line-index l.lines) ≡ points_worked l.lines
