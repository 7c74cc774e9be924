use Rattle.std.proofs.Common.{◌≡◌, ◌+◌, length}
use Rattle.line_graph.specs.GrowingDrawings.{point_count}
use Rattle.drawing_reports.proofs.space_texts.point_total.Given as goal

-- the points so far, and those of the lines that are left, are all
abbrev pub invariant-loop-rest : goal.invariant-loop-rest
invariant-loop-rest l = l.points + point_count l.rest ≡ point_count l.d.lines

abbrev pub decreases-loop-rest : goal.decreases-loop-rest
decreases-loop-rest l = length l.rest
