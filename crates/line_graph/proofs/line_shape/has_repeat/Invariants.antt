use Rattle.std.proofs.Common.{◌≡◌, length}
use Rattle.line_graph.proofs.DrawingNames.{has_repeated_point, repeats_after}
use Rattle.line_graph.proofs.line_shape.has_repeat.Given as goal

-- no point so far is the same as the one before it
abbrev pub invariant-loop-rest : goal.invariant-loop-rest
invariant-loop-rest l = has_repeated_point l.points ≡ repeats_after l.before l.rest

abbrev pub decreases-loop-rest : goal.decreases-loop-rest
decreases-loop-rest l = length l.rest
