use Rattle.std.proofs.Common.{◌≡◌, ◌++◌, drop}
use Rattle.line_graph.proofs.drawing.copied_lines.Given as goal

-- the copied lines and those that are left are all lines
abbrev pub invariant-loop-line : goal.invariant-loop-line
invariant-loop-line l = l.copy.items ++ drop l.line-index l.lines ≡ l.lines
