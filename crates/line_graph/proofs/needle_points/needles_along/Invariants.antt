use Rattle.std.proofs.Common.{drop}
use Rattle.line_graph.proofs.NeedleLemmas.{IsSewn}
use Rattle.line_graph.proofs.needle_points.needles_along.Given as goal

-- the needle points so far come along the line to the point before those that are left
abbrev pub invariant-loop-next : goal.invariant-loop-next
invariant-loop-next l = IsSewn l.step l.points l.before (drop l.next-index l.after) l.needles
