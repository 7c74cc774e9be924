use Rattle.std.proofs.Common.{drop}
use Rattle.line_meetings.proofs.Names.{AreAllWithin, AreWithin, Bounds}
use Rattle.line_meetings.proofs.outline.bounds_of_all.Given as goal

-- what has these bounds and the parts that are left inside has all inside
abbrev pub invariant-loop-part : goal.invariant-loop-part
invariant-loop-part l = (g : Bounds) → AreWithin g l.bounds → AreAllWithin g (drop l.part-index l.parts) → AreAllWithin g l.parts
