use Rattle.std.proofs.Common.{◌≡◌, ◌↔◌, length}
use Rattle.line_sections.specs.Lines.{are_same_points}
use Rattle.line_sections.proofs.line.have_same_points.Given as goal

-- the points that are left are the same exactly where all are
abbrev pub invariant-loop-left : goal.invariant-loop-left
invariant-loop-left l = record {
  value : are_same_points l.left l.rest ≡ are_same_points l.a l.b;
  decides : (l.left ≡ l.rest) ↔ (l.a ≡ l.b);
}

abbrev pub decreases-loop-left : goal.decreases-loop-left
decreases-loop-left l = length l.left
