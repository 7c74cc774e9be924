use Rattle.std.proofs.Common.{◌≡◌, ◌+◌, drop, nat_lt}
use Rattle.std.specs.List.{position_or_len}
use Rattle.free_ends.proofs.freed_drawing.first_of_later_block.Given as goal

-- The spots so far are of the block or of an earlier one.
abbrev pub invariant-loop-one : goal.invariant-loop-one
invariant-loop-one l = record {
  counted : l.index ≡ l.one-index;
  left : l.index + position_or_len (λ one. nat_lt l.block one.block) (drop l.one-index l.spots)
      ≡ position_or_len (λ one. nat_lt l.block one.block) l.spots;
}
