use Rattle.std.proofs.Common.{sum_by}
use Rattle.line_graph.proofs.LabelLemmas.{IsLowered}
use Rattle.line_graph.proofs.line_labels.settle.Given as goal

-- the labels so far are no greater, and lines are connected to theirs
abbrev pub invariant-loop : goal.invariant-loop
invariant-loop l = IsLowered l.links l.fn.labels.items l.labels.items

abbrev pub decreases-loop : goal.decreases-loop
decreases-loop l = sum_by (λ n. n) l.labels.items
