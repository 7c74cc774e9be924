use Rattle.std.proofs.Common.{◌≡◌, length}
use Rattle.near_pieces.specs.Nodes.{IsNode}
use Rattle.near_pieces.proofs.near_choices.nearest_next.Given as goal

-- The order has begun, and the best one so far is as it was.
abbrev pub invariant-loop-node : goal.invariant-loop-node
invariant-loop-node l = record {
  begun : IsNode l.visits l.fn.start l.node;
  kept : l.best ≡ l.fn.best;
}

abbrev pub decreases-loop-node : goal.decreases-loop-node
decreases-loop-node l = length l.node.left
