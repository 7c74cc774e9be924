use Rattle.std.proofs.Common.{arith, length, ◌≡◌, refl, subst}
use Rattle.odd_sets.proofs.Names.{length-map, Shrinks, branch_in, branches_in, set_in, Slots}
use Rattle.odd_sets.proofs.ListLemmas.{mapped_last}
use Rattle.odd_sets.proofs.ShrinkLemmas.{closable, closable_root}
use Rattle.odd_sets.proofs.ShrunkLemmas.{last_kept, blossom_sets, root_sets, shrunk_inside, shrunk_root}
use Rattle.odd_sets.proofs.shrinking.shrink.Goals as goal

pub close-requires-clause-can : goal.close-requires-clause-can
close-requires-clause-can c =
    let sets = c.loop-b.sets in
    let i = c.loop-b.invariant in
    let ends = c.if-ends_in.ensures.yes refl in
    closable c.args.link _ _ (branches_in sets c.loop-b.tree.items) (branches_in sets c.pop.new.self.items) (branch_in sets c.in-Some.b)
    _ _ _ _ i.can i.goes (mapped_last (branch_in sets) _ _ _ c.in-Some.ensures.items) ends.0 ends.1

pub close-requires-clause-kept : goal.close-requires-clause-kept
close-requires-clause-kept c =
    let sets = c.loop-b.sets in
    let i = c.loop-b.invariant in
    (last_kept c.args.link _ _ (branches_in sets c.loop-b.tree.items) (branches_in sets c.pop.new.self.items) (branch_in sets c.in-Some.b)
    _ _ _ _ i.can i.goes (mapped_last (branch_in sets) _ _ _ c.in-Some.ensures.items)).1

pub close-requires-clause-sets : goal.close-requires-clause-sets
close-requires-clause-sets c =
    let sets = c.loop-b.sets in
    let i = c.loop-b.invariant in
    blossom_sets sets c.args.link _ _ (branches_in sets c.loop-b.tree.items) (branches_in sets c.pop.new.self.items)
    (branch_in sets c.in-Some.b) _ _ _ _ i.goes (mapped_last (branch_in sets) _ _ _ c.in-Some.ensures.items) i.stand

pub returns-then-ends_in-clause-shrinks : goal.returns-then-ends_in-clause-shrinks
returns-then-ends_in-clause-shrinks c =
    let sets = c.loop-b.sets in
    let i = c.loop-b.invariant in
    let ends = c.if-ends_in.ensures.yes refl in
    let e = mapped_last (branch_in sets) _ _ _ c.in-Some.ensures.items in
    let cl = closable c.args.link _ _ (branches_in sets c.loop-b.tree.items) (branches_in sets c.pop.new.self.items)
    (branch_in sets c.in-Some.b) _ _ _ _ i.can i.goes e ends.0 ends.1 in
    subst (λ (s : Slots). Shrinks (set_in c.close.new.sets c.in_ok-outer.outer) c.args.link (set_in s c.args.root.now)
    (set_in c.close.new.sets c.args.root.now) (branches_in s c.args.tree.now.items)
    (branches_in c.close.new.sets c.put_back.new.tree.items)) i.same
    (shrunk_inside sets c.close.new.sets c.args.link c.args.root.now c.args.tree.now.items c.loop-b.tree.items c.pop.new.self.items
    c.loop-b.aside.items c.loop-b.chain.parts.items c.loop-b.chain.way c.loop-b.chain.to c.in_ok-outer.outer c.in-Some.b _ _
    i.can i.goes e cl i.stand c.in_ok-outer.ensures.inserts c.in_ok-outer.ensures.is c.in_ok-push.ensures.items
    c.in_ok-put_back.ensures)

pub loop-b-preserved : goal.loop-b-preserved
loop-b-preserved c =
    let sets = c.loop-b.sets in
    let i = c.loop-b.invariant in
    record {
      same = i.same;
      can = i.can;
      stand = i.stand;
      goes = c.in_ok-climb.ensures.goes c.args.link _ _ (branches_in sets c.loop-b.tree.items) (branches_in sets c.pop.new.self.items)
          i.can (mapped_last (branch_in sets) _ _ _ c.in-Some.ensures.items) i.goes;
    }

pub close-requires-2-clause-can : goal.close-requires-2-clause-can
close-requires-2-clause-can c =
    let sets = c.loop-b.sets in
    let i = c.loop-b.invariant in
    let none : length (branches_in sets c.loop-b.tree.items) ≡ 0 =
    omega (arith, c.in_default.ensures.cases, length-map c.loop-b.tree.items (branch_in sets)) in
    closable_root c.args.link _ _ (branches_in sets c.loop-b.tree.items) _ _ _ _ i.can i.goes none

pub close-requires-2-clause-sets : goal.close-requires-2-clause-sets
close-requires-2-clause-sets c =
    let sets = c.loop-b.sets in
    let i = c.loop-b.invariant in
    root_sets sets c.args.link _ _ (branches_in sets c.loop-b.tree.items) _ _ _ _ i.goes i.stand

pub returns-clause-shrinks : goal.returns-clause-shrinks
returns-clause-shrinks c =
    let sets = c.loop-b.sets in
    let i = c.loop-b.invariant in
    let none : length (branches_in sets c.loop-b.tree.items) ≡ 0 =
    omega (arith, c.in_default.ensures.cases, length-map c.loop-b.tree.items (branch_in sets)) in
    subst (λ (s : Slots). Shrinks (set_in c.close-2.new.sets c.in_ok-blossom.blossom) c.args.link (set_in s c.args.root.now)
    (set_in c.close-2.new.sets c.in_ok-blossom.blossom) (branches_in s c.args.tree.now.items)
    (branches_in c.close-2.new.sets c.put_back-2.new.tree.items)) i.same
    (shrunk_root sets c.close-2.new.sets c.args.link c.args.root.now c.args.tree.now.items c.loop-b.tree.items c.pop.new.self.items
    c.loop-b.aside.items c.loop-b.chain.parts.items c.loop-b.chain.way c.loop-b.chain.to c.in_ok-blossom.blossom c.pop.new.self.items
    _ _ i.can i.goes none i.stand c.in_ok-blossom.ensures.inserts c.in_ok-blossom.ensures.is c.in_default.ensures.items
    c.in_ok-put_back-2.ensures)
