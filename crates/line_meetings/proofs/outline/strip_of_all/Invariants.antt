use Rattle.std.proofs.Common.{drop}
use Rattle.drawing_review.specs.declared.strip.Strip.{Strip}
use Rattle.line_meetings.specs.Outlines.{LieInStrip}
use Rattle.line_meetings.proofs.StripLists.{IsWider}
use Rattle.line_meetings.proofs.outline.strip_of_all.Given as goal

-- in what is as wide as this strip and has the parts that are left, all lie
abbrev pub invariant-loop-part : goal.invariant-loop-part
invariant-loop-part l = (g : Strip) → IsWider g l.strip → LieInStrip g (drop l.part-index l.parts) → LieInStrip g l.parts
