use Rattle.std.proofs.Common.{◌+◌, ◌≡◌, ◌≤◌, drop, length}
use Rattle.drawing_picture.proofs.Names.{odd_marks}
use Rattle.drawing_picture.proofs.junction_marks.odd_count.Given as goal

-- the odd junctions so far with those that are left are all, and no more than there are marks
abbrev pub invariant-loop-mark : goal.invariant-loop-mark
invariant-loop-mark l = record {
  few : l.odd + length (drop l.mark-index l.marks) ≤ length l.marks;
  sum : l.odd + odd_marks (drop l.mark-index l.marks) ≡ odd_marks l.marks;
}
