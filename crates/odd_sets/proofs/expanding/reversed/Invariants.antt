use Rattle.std.proofs.Common.{◌≡◌, ◌∷◌, length}
use Rattle.odd_sets.proofs.Names.{into_iter_items, reversed_edge, last_edge_of, reversed_blossom, reversed_onto, parts_in, set_in, Slots, part_with_edge}
use Rattle.odd_sets.proofs.expanding.reversed.Given as goal

-- the chain reversed so far, and the remaining parts
abbrev pub invariant-loop-p : goal.invariant-loop-p
invariant-loop-p l =
    (sets : Slots) → part_with_edge (set_in sets l.first.handle)
    (reversed_edge (last_edge_of l.link (parts_in sets (into_iter_items l.left))))
    ∷ reversed_onto l.link (parts_in sets (into_iter_items l.left)) (parts_in sets l.told.items)
    ≡ reversed_blossom (parts_in sets l.fn.blossom.items)

abbrev pub decreases-loop-p : goal.decreases-loop-p
decreases-loop-p l = length (into_iter_items l.left)
