use Rattle.std.proofs.Common.{◌≡◌, ◌-◌, ◌≤◌, ◌++◌, length, drop}
use Rattle.drawing_reports.specs.Spacings.{spacings_from, spacings_of_lines}
use Rattle.drawing_reports.proofs.short_segments.short_spacings.Given as goal

-- the spacings so far, and those of the lines that are left, are all
abbrev pub invariant-loop-line : goal.invariant-loop-line
invariant-loop-line l = record {
  within : l.line ≤ length l.lines;
  all : l.spacings ++ spacings_from l.step l.line (drop l.line l.lines) ≡ spacings_of_lines l.step l.lines;
}

abbrev pub decreases-loop-line : goal.decreases-loop-line
decreases-loop-line l = length l.lines - l.line
