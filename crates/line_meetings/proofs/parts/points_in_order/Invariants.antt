use Rattle.std.proofs.Common.{◌≡◌, ◌-◌, ◌≤◌, ◌++◌, length, drop}
use Rattle.line_meetings.proofs.Names.{all_points, parts_of_lines, points_after}
use Rattle.line_meetings.proofs.parts.points_in_order.Given as goal

-- the parts so far, and those of the lines that are left, are all
abbrev pub invariant-loop-line : goal.invariant-loop-line
invariant-loop-line l = record {
  within : l.line ≤ length l.lines;
  all : l.parts.items ++ parts_of_lines (λ line value. points_after value.block line 0 value.points) l.line (drop l.line l.lines)
      ≡ all_points l.lines;
}

abbrev pub decreases-loop-line : goal.decreases-loop-line
decreases-loop-line l = length l.lines - l.line
