use Rattle.std.proofs.Common.{length}
use Rattle.odd_sets.proofs.Names.{into_iter_items, branches_in, parts_in, set_in}
use Rattle.odd_sets.proofs.SplitLemmas.{Laying}
use Rattle.odd_sets.proofs.expanding.split_blossom.Given as goal

abbrev pub invariant-loop-p : goal.invariant-loop-p
invariant-loop-p l =
    Laying (set_in l.sets l.fn.root) (branches_in l.sets l.fn.tree.items) (parts_in l.sets l.fn.blossom.items) l.fn.b.up l.fn.b.pair
    (set_in l.sets l.fn.b.outer) (branches_in l.sets l.tree.items) (parts_in l.sets (into_iter_items l.left)) l.way

abbrev pub decreases-loop-p : goal.decreases-loop-p
decreases-loop-p l = length (into_iter_items l.left)
