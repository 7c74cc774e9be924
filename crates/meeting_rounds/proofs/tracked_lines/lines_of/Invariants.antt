use Rattle.std.proofs.Common.{◌≡◌, ◌++◌, drop}
use Rattle.meeting_rounds.specs.TrackedLines.{lines_as_worked}
use Rattle.meeting_rounds.proofs.tracked_lines.lines_of.Given as goal

-- the lines so far, and those that are left
abbrev pub invariant-loop-line : goal.invariant-loop-line
invariant-loop-line l = l.lines.items ++ lines_as_worked (drop l.line-index l.tracked) ≡ lines_as_worked l.tracked
