use Rattle.std.proofs.Common.{◌≡◌, ◌++◌, drop}
use Rattle.meeting_rounds.specs.MovedPoints.{lines_moved}
use Rattle.meeting_rounds.proofs.moved_points.moved_lines.Given as goal

-- the lines so far, and those that are left
abbrev pub invariant-loop-line : goal.invariant-loop-line
invariant-loop-line l = l.moved.items ++ lines_moved l.gap l.moves (drop l.line-index l.lines)
    ≡ lines_moved l.gap l.moves l.lines
