use Rattle.std.proofs.Common.{◌≡◌, ◌++◌, drop}
use Rattle.line_sections.specs.Lines.{points_of_lines}
use Rattle.met_drawings.proofs.meeting_counts.points_in.Given as goal

-- the points so far, and those of the lines that are left
abbrev pub invariant-loop-line : goal.invariant-loop-line
invariant-loop-line l = l.points ++ points_of_lines (drop l.line-index l.lines) ≡ points_of_lines l.lines
