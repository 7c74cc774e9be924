use Rattle.std.proofs.Common.{◌≡◌, ◌++◌, drop}
use Rattle.line_meetings.specs.IndexedParts.{indexed_at}
use Rattle.line_meetings.proofs.Names.{flat_map}
use Rattle.line_meetings.proofs.part_order.indexed_by.Given as goal

-- the parts so far, and those at the indexes that are left, are all
abbrev pub invariant-loop-o : goal.invariant-loop-o
invariant-loop-o l = l.ordered.items ++ flat_map (λ o. indexed_at l.parts o.index) (drop l.o-index l.order)
    ≡ flat_map (λ o. indexed_at l.parts o.index) l.order
