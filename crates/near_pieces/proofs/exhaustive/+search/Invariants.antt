use Rattle.std.proofs.Common.{◌≤◌, ◌-◌, length}
use Rattle.near_pieces.specs.Nodes.{IsMeasured, IsTriedUpTo}
use Rattle.near_pieces.proofs.exhaustive.+search.Given as goal

abbrev pub decreases-search : goal.decreases-search
decreases-search l = length l.node.now.left

-- The orders that begin with one of the places so far are tried.
abbrev pub invariant-loop-index : goal.invariant-loop-index
invariant-loop-index l = record {
  measured : IsMeasured l.visits l.start l.best;
  no_more : l.best.travel ≤ l.fn.best.travel;
  tried : IsTriedUpTo l.visits l.node l.index l.best.travel;
}

abbrev pub decreases-loop-index : goal.decreases-loop-index
decreases-loop-index l = length l.node.left - l.index
