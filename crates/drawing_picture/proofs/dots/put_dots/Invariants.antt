use Rattle.std.proofs.Common.{◌++◌, ◌≡◌, drop}
use Rattle.drawing_picture.proofs.Names.{flat_map, junction_dot}
use Rattle.drawing_picture.proofs.dots.put_dots.Given as goal

-- the marks so far, and those that are left, are all
abbrev pub invariant-loop-mark : goal.invariant-loop-mark
invariant-loop-mark l = l.text ++ flat_map junction_dot (drop l.mark-index l.marks) ≡ l.fn.text ++ flat_map junction_dot l.marks
