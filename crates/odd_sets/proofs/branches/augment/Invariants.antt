use Rattle.std.proofs.Common.{vec_len}
use Rattle.odd_sets.proofs.Names.{branches_in, matches_in, set_in}
use Rattle.odd_sets.proofs.AugmentLemmas.{Pairing}
use Rattle.odd_sets.proofs.branches.augment.Given as goal

abbrev pub invariant-loop-b : goal.invariant-loop-b
invariant-loop-b l = Pairing (set_in l.sets l.fn.root) (set_in l.sets l.fn.met) l.fn.link (branches_in l.sets l.fn.tree.items)
    (matches_in l.sets l.fn.rest.items) (matches_in l.sets l.rest.items) (set_in l.sets l.hand.set) l.hand.way
    (branches_in l.sets l.left.items)

abbrev pub decreases-loop-b : goal.decreases-loop-b
decreases-loop-b l = vec_len l.left
