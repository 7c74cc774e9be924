use Rattle.std.proofs.Common.{◌≡◌, [], vec_len}
use Rattle.odd_sets.proofs.Names.{CanShrink, branches_in, set_in, AreSets, all_dual_sets}
use Rattle.odd_sets.specs.ChainSteps.{IsOpenChainIn}
use Rattle.odd_sets.proofs.shrinking.shrink.Given as goal

abbrev pub invariant-loop-b : goal.invariant-loop-b
invariant-loop-b l = record {
  same : l.sets ≡ l.fn.sets;
  can : CanShrink l.fn.link (set_in l.sets l.fn.root) (branches_in l.sets l.fn.tree.items);
  stand : AreSets l.sets (all_dual_sets (set_in l.sets l.fn.root) (branches_in l.sets l.fn.tree.items) []);
  goes : IsOpenChainIn l.sets l.fn.link (set_in l.sets l.fn.root) (branches_in l.sets l.fn.tree.items) (branches_in l.sets l.tree.items)
      l.chain l.aside.items;
}

abbrev pub decreases-loop-b : goal.decreases-loop-b
decreases-loop-b l = vec_len l.tree
