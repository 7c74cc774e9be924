use Rattle.std.proofs.Common.{get_or, arith, refl, sym, List, ◌++◌, subst}
use Rattle.blossom_match.proofs.Names.{nat_tests, append-nil, length-map, take_all, AreOuterSlacks, BranchValue, branch_in, branches_in, mapped_item, mapped_low, no_branch}
use Rattle.blossom_match.proofs.OuterSlackLemmas.{fits_row, reaches_next}
use Rattle.blossom_match.proofs.outer_slacks.add_branch_slacks.Goals as goal

pub loop-b-init : goal.loop-b-init
loop-b-init c = record {
  reaches = λ t hs root before once firm r.
      subst (λ (ks : List BranchValue). AreOuterSlacks t hs root ks c.args.reach.now) (sym (append-nil before)) r;
  size = refl;
}

pub add_set_slacks-requires : goal.add_set_slacks-requires
add_set_slacks-requires c =
    fits_row (branches_in c.args.sets.now c.args.tree.now) c.loop-b.b-index (branch_in c.args.sets.now
    (get_or c.args.tree.now c.loop-b.b-index no_branch)) c.args.reach.now c.loop-b.reach c.requires
    (mapped_low (branch_in c.args.sets.now) c.args.tree.now c.loop-b.b-index c.loop-b-test.true)
    (mapped_item (branch_in c.args.sets.now) c.args.tree.now c.loop-b.b-index no_branch)
    c.loop-b.invariant.size

pub loop-b-preserved : goal.loop-b-preserved
loop-b-preserved c = record {
  reaches = λ t hs root before once firm r. reaches_next t hs root before (branches_in c.args.sets.now c.args.tree.now) c.loop-b.b-index
      (branch_in c.args.sets.now (get_or c.args.tree.now c.loop-b.b-index no_branch)) c.loop-b.reach
      c.add_set_slacks.new.reach once firm (mapped_low (branch_in c.args.sets.now) c.args.tree.now c.loop-b.b-index c.loop-b-test.true)
      (mapped_item (branch_in c.args.sets.now) c.args.tree.now c.loop-b.b-index no_branch)
      (c.loop-b.invariant.reaches t hs root before once firm r)
      c.add_set_slacks.auto.reach c.add_set_slacks.ensures;
  size = omega (arith, c.add_set_slacks.auto.reach, c.loop-b.invariant.size);
}

pub returns : goal.returns
returns c = λ t hs root before once firm r.
    subst (λ (ks : List BranchValue). AreOuterSlacks t hs root (before ++ ks) c.loop-b.reach)
    (take_all c.loop-b.b-index (branches_in c.args.sets.now c.args.tree.now) (grind (arith, nat_tests, c.loop-b-test.false, length-map)))
    (c.loop-b.invariant.reaches t hs root before once firm r)
