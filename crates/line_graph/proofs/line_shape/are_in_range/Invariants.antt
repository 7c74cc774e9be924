use Rattle.std.proofs.Common.{◌≡◌, length}
use Rattle.line_graph.proofs.DrawingNames.{all_in_needle_range}
use Rattle.line_graph.proofs.line_shape.are_in_range.Given as goal

-- the points so far are in range, so all depends on those that are left
abbrev pub invariant-loop-rest : goal.invariant-loop-rest
invariant-loop-rest l = all_in_needle_range l.points ≡ all_in_needle_range l.rest

abbrev pub decreases-loop-rest : goal.decreases-loop-rest
decreases-loop-rest l = length l.rest
