use Rattle.std.proofs.Common.{◌≡◌}
use Rattle.std.specs.List.{range_with_len}
use Rattle.near_pieces.proofs.node.all_indexes.Given as goal

-- The numbers so far are there.
abbrev pub invariant-loop-index : goal.invariant-loop-index
invariant-loop-index l = l.all ≡ range_with_len 0 l.index
