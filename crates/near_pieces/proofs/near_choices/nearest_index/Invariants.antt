use Rattle.std.proofs.Common.{◌<◌, length}
use Rattle.near_pieces.proofs.near_choices.nearest_index.Given as goal

-- The nearest place so far is one of those that are left.
abbrev pub invariant-loop-index : goal.invariant-loop-index
invariant-loop-index l = l.best < length l.node.left
