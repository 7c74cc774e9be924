use Rattle.std.proofs.Common.{◌≡◌, ◌++◌, drop}
use Rattle.drawing_text.proofs.Names.{points_text}
use Rattle.drawing_text.proofs.printing.put_points.Given as goal

-- the text so far, and that of the points that are left
abbrev pub invariant-loop-p : goal.invariant-loop-p
invariant-loop-p l = l.text ++ points_text (drop l.p-index l.points) ≡ l.fn.text ++ points_text l.points
