use Rattle.std.proofs.Common.{◌≡◌, ◌++◌, length}
use Rattle.odd_sets.proofs.Names.{into_iter_items, matches_along, matches_in, parts_in, Slots}
use Rattle.odd_sets.proofs.matches.pair_off.Given as goal

-- the matches so far and those of the parts that are left
abbrev pub invariant-loop-p : goal.invariant-loop-p
invariant-loop-p l = (sets : Slots) → matches_in sets l.out.items ++ matches_along (parts_in sets (into_iter_items l.left))
    ≡ matches_along (parts_in sets (into_iter_items l.fn.parts))

abbrev pub decreases-loop-p : goal.decreases-loop-p
decreases-loop-p l = length (into_iter_items l.left)
