use Rattle.std.proofs.Common.{refl}
use Rattle.line_graph.proofs.LabelLemmas.{next_lowered}
use Rattle.line_graph.proofs.line_labels.sweep.Goals as goal

pub loop-link-preserved : goal.loop-link-preserved
loop-link-preserved c = record {
  low = c.join_labels-changed.ensures.low c.loop-link.invariant.low;
  so_far = next_lowered c.args.links.now c.loop-link.link-index _ _ _ _ _ _ _ c.loop-link-test.true refl c.loop-link.invariant.so_far
      c.join_labels-changed.ensures;
}
