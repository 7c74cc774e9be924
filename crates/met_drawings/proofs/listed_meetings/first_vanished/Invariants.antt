use Rattle.std.proofs.Common.{◌≡◌, ◌-◌, ◌≤◌, length, drop}
use Rattle.met_drawings.specs.ListedMeetings.{vanished_after}
use Rattle.met_drawings.proofs.listed_meetings.first_vanished.Given as goal

-- no line so far has vanished, and the result depends on those that are left
abbrev pub invariant-loop-line : goal.invariant-loop-line
invariant-loop-line l = record {
  within : l.line ≤ length l.lines;
  left : vanished_after l.line (drop l.line l.lines) ≡ vanished_after 0 l.lines;
}

abbrev pub decreases-loop-line : goal.decreases-loop-line
decreases-loop-line l = length l.lines - l.line
