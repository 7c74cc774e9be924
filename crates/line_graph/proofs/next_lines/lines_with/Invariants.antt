use Rattle.std.proofs.Common.{◌-◌, length}
use Rattle.line_graph.proofs.NextLineLemmas.{AreLabelledBefore}
use Rattle.line_graph.proofs.next_lines.lines_with.Given as goal

-- the lines so far are those with the label before the next one
abbrev pub invariant-loop-line : goal.invariant-loop-line
invariant-loop-line l = AreLabelledBefore l.labels l.label l.line l.lines

abbrev pub decreases-loop-line : goal.decreases-loop-line
decreases-loop-line l = length l.labels - l.line
