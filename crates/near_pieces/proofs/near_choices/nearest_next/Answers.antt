use Rattle.near_pieces.proofs.NodeLemmas.{fewer_left, next_is_node}
use Rattle.near_pieces.proofs.near_choices.nearest_next.Goals as goal

pub loop-node-smaller : goal.loop-node-smaller
loop-node-smaller c = fewer_left c.args.visits.now c.loop-node.node c.in_ok-node.node c.nearest_index-index.result
    c.nearest_index-index.ensures c.in_ok-node.ensures.value

pub loop-node-preserved : goal.loop-node-preserved
loop-node-preserved c = record {
  begun = next_is_node c.args.visits.now c.args.start c.loop-node.node c.in_ok-node.node c.nearest_index-index.result
      c.loop-node.invariant.begun c.nearest_index-index.ensures c.in_ok-node.ensures.value c.in_ok-node.ensures.inside;
  kept = c.loop-node.invariant.kept;
}
