use Rattle.std.proofs.Common.{take}
use Rattle.line_graph.proofs.Names.{AreAtMostIndex, LowersLabels}
use Rattle.line_graph.proofs.line_labels.sweep.Given as goal

-- the labels so far, and whether any changed
abbrev pub invariant-loop-link : goal.invariant-loop-link
invariant-loop-link l = record {
  low : AreAtMostIndex l.labels.items;
  so_far : LowersLabels (take l.link-index l.links) l.fn.labels.items l.labels.items l.changed;
}
