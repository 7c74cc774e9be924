use Rattle.std.proofs.Common.{◌≡◌, drop}
use Rattle.drawing_text.proofs.Names.{drawing_with_ends}
use Rattle.drawing_text.proofs.ending.with_ends.Given as goal

-- the ends so far are taken, so all depends on the drawing with them and on those that are left
abbrev pub invariant-loop-end : goal.invariant-loop-end
invariant-loop-end l = drawing_with_ends l.maker (drop l.end-index l.ends) ≡ drawing_with_ends l.fn.drawing l.ends
