use Rattle.line_graph.proofs.Names.{AreOwnIndexes}
use Rattle.line_graph.proofs.line_labels.own_labels.Given as goal

-- each line so far has its own label
abbrev pub invariant-loop-line : goal.invariant-loop-line
invariant-loop-line l = AreOwnIndexes l.line l.labels.items
