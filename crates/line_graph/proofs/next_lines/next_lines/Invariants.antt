use Rattle.std.proofs.Common.{◌≤◌, length}
use Rattle.line_graph.proofs.Names.{AreNextFrom}
use Rattle.line_graph.proofs.next_lines.next_lines.Given as goal

-- the next lines as far as the lines from `at` on determine them
abbrev pub invariant-loop-at : goal.invariant-loop-at
invariant-loop-at l = record {
  within : l.at ≤ length l.labels;
  seen : AreNextFrom l.labels l.at l.next.items;
}

abbrev pub decreases-loop-at : goal.decreases-loop-at
decreases-loop-at l = l.at
