use Rattle.std.proofs.Common.{◌≡◌, length}
use Rattle.line_graph.proofs.DrawingNames.{is_ascii_graphic, list_all}
use Rattle.line_graph.proofs.drawing_maker.are_graphic.Given as goal

-- the bytes so far pass, so all depends on those that are left
abbrev pub invariant-loop-rest : goal.invariant-loop-rest
invariant-loop-rest l = list_all is_ascii_graphic l.bytes ≡ list_all is_ascii_graphic l.rest

abbrev pub decreases-loop-rest : goal.decreases-loop-rest
decreases-loop-rest l = length l.rest
