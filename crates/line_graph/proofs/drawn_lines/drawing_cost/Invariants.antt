use Rattle.std.proofs.Common.{◌≡◌, take}
use Rattle.line_graph.proofs.DrawingNames.{step_count}
use Rattle.line_graph.proofs.drawn_lines.drawing_cost.Given as goal

-- the cost of the lines so far
abbrev pub invariant-loop-line : goal.invariant-loop-line
invariant-loop-line l = l.cost ≡ step_count l.d.step (take l.line l.d.lines)
