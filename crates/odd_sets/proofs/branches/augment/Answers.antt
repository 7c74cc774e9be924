use Rattle.std.proofs.Common.{arith, length, ◌≡◌}
use Rattle.odd_sets.proofs.Names.{length-map, branch_in, branches_in, match_in}
use Rattle.odd_sets.proofs.AugmentLemmas.{pairing_more, pairing_done}
use Rattle.odd_sets.proofs.ListLemmas.{mapped_last}
use Rattle.odd_sets.proofs.branches.augment.Goals as goal

pub loop-b-preserved : goal.loop-b-preserved
loop-b-preserved c =
    let sets = c.args.sets.now in
    pairing_more _ _ _ _ _ _ _ _ _ (branches_in sets c.loop-b.left.items) (branches_in sets c.pop.new.self.items)
    (branch_in sets c.in-Some.b) _ _ _ c.loop-b.invariant (mapped_last (branch_in sets) _ _ _ c.in-Some.ensures.items)
    c.pair_at.ensures (mapped_last (match_in sets) _ _ _ c.in_ok-push.ensures.items)

pub returns : goal.returns
returns c =
    let sets = c.args.sets.now in
    let none : length (branches_in sets c.loop-b.left.items) ≡ 0 =
    omega (arith, c.in_default.ensures.cases, length-map c.loop-b.left.items (branch_in sets)) in
    pairing_done _ _ _ _ _ _ _ _ _ (branches_in sets c.loop-b.left.items) c.loop-b.invariant none
    (mapped_last (match_in sets) _ _ _ c.in_ok-push-2.ensures.items)
