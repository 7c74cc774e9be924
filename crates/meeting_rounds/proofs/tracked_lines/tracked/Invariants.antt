use Rattle.std.proofs.Common.{◌≡◌, ◌++◌, drop}
use Rattle.meeting_rounds.specs.TrackedLines.{tracked_lines}
use Rattle.meeting_rounds.proofs.tracked_lines.tracked.Given as goal

-- the lines so far, and those that are left
abbrev pub invariant-loop-line : goal.invariant-loop-line
invariant-loop-line l = l.tracked.items ++ tracked_lines (drop l.line-index l.lines) ≡ tracked_lines l.lines
