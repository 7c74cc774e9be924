use Rattle.std.proofs.Common.{◌≡◌, drop, length, nat_lt, sum_by}
use Rattle.meeting_rounds.specs.declared.tracked_lines.TrackedLine.{TrackedLine}
use Rattle.meeting_rounds.specs.Rounds.{are_too_long}
use Rattle.meeting_rounds.proofs.rounds.are_too_long.Given as goal

-- the lines that are left list more points than may still be listed exactly where all list too many
abbrev pub invariant-loop-line : goal.invariant-loop-line
invariant-loop-line l = nat_lt l.left (sum_by (λ (line : TrackedLine). length line.points) (drop l.line-index l.lines))
    ≡ are_too_long l.lines
