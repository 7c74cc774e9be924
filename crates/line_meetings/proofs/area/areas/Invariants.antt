use Rattle.std.proofs.Common.{◌≡◌, ◌++◌}
use Rattle.line_meetings.proofs.Names.{chunks_rest, flat_map}
use Rattle.line_meetings.proofs.area.areas.Given as goal

-- the areas so far, and the parts that are left, are all
abbrev pub invariant-loop-next : goal.invariant-loop-next
invariant-loop-next l = flat_map (λ a. a) l.areas.items ++ chunks_rest l.next-iterator ≡ l.some
