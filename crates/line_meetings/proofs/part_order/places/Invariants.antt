use Rattle.std.proofs.Common.{◌≡◌, ◌+◌, ◌++◌, length, map}
use Rattle.std.specs.List.{range_with_len}
use Rattle.line_meetings.proofs.part_order.places.Given as goal

-- the indexes so far, and those of the parts that are left, are all
abbrev pub invariant-loop-rest : goal.invariant-loop-rest
invariant-loop-rest l = record {
  counted : l.index + length l.rest ≡ length l.parts;
  all : map (λ o. o.index) l.order.items ++ range_with_len l.index (length l.rest) ≡ range_with_len 0 (length l.parts);
}

abbrev pub decreases-loop-rest : goal.decreases-loop-rest
decreases-loop-rest l = length l.rest
