use Rattle.std.proofs.Common.{◌≡◌, ◌↔◌, length}
use Rattle.met_drawings.proofs.meeting_counts.are_same_lines.Given as goal

-- the lines that are left are equal exactly where all are
abbrev pub invariant-loop-a : goal.invariant-loop-a
invariant-loop-a l = (l.a ≡ l.b) ↔ (l.one ≡ l.other)

abbrev pub decreases-loop-a : goal.decreases-loop-a
decreases-loop-a l = length l.a
