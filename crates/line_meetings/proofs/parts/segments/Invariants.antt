use Rattle.std.proofs.Common.{◌≡◌, ◌-◌, ◌≤◌, ◌++◌, length, drop}
use Rattle.line_meetings.proofs.Names.{all_segments, parts_of_lines, segment_parts}
use Rattle.line_meetings.proofs.parts.segments.Given as goal

-- the parts so far, and those of the lines that are left, are all
abbrev pub invariant-loop-line : goal.invariant-loop-line
invariant-loop-line l = record {
  within : l.line ≤ length l.lines;
  all : l.parts.items ++ parts_of_lines (λ line value. segment_parts line value value.points) l.line (drop l.line l.lines)
      ≡ all_segments l.lines;
}

abbrev pub decreases-loop-line : goal.decreases-loop-line
decreases-loop-line l = length l.lines - l.line
