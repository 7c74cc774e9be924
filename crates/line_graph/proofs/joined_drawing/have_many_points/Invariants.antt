use Rattle.std.proofs.Common.{◌≡◌, ◌+◌, length}
use Rattle.line_graph.proofs.DrawingNames.{point_count}
use Rattle.line_graph.proofs.joined_drawing.have_many_points.Given as goal

-- what the lines so far have left of the room
abbrev pub invariant-loop-rest : goal.invariant-loop-rest
invariant-loop-rest l = point_count l.lines + l.room ≡ 65536 + point_count l.rest

abbrev pub decreases-loop-rest : goal.decreases-loop-rest
decreases-loop-rest l = length l.rest
