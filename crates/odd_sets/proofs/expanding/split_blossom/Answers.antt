use Rattle.std.proofs.Common.{ap, refl, List}
use Rattle.odd_sets.proofs.Names.{into_iter_items, branch_in, part_in, parts_in, set_in, BlossomPart}
use Rattle.odd_sets.proofs.SplitLemmas.{laid, laying_more}
use Rattle.odd_sets.proofs.ListLemmas.{mapped_last}
use Rattle.odd_sets.proofs.expanding.split_blossom.Goals as goal

pub returns-then-holds : goal.returns-then-holds
returns-then-holds c =
    let sets = c.args.sets.now in
    laid (set_in sets c.args.root) _ _ _ c.args.b.pair (set_in sets c.args.b.outer) _ (parts_in sets (into_iter_items c.loop-p.left))
    (parts_in sets (into_iter_items c.next.new.self)) (part_in sets c.in-Some.p) c.loop-p.way _ _
    c.loop-p.invariant (ap (λ (ps : List BlossomPart). parts_in sets ps) c.in-Some.ensures.items)
    (c.if-holds.ensures.yes refl) (mapped_last (branch_in sets) _ _ _ c.in_ok-hang.ensures) (c.in_ok-matches.ensures sets)

pub loop-p-preserved : goal.loop-p-preserved
loop-p-preserved c =
    let sets = c.args.sets.now in
    laying_more (set_in sets c.args.root) _ _ _ c.args.b.pair (set_in sets c.args.b.outer) _
    (parts_in sets (into_iter_items c.loop-p.left)) (parts_in sets (into_iter_items c.next.new.self))
    (parts_in sets (into_iter_items c.next-in-Some.new.self)) (part_in sets c.in-Some.p) (part_in sets c.in-Some-next.q) c.loop-p.way _
    c.loop-p.invariant (ap (λ (ps : List BlossomPart). parts_in sets ps) c.in-Some.ensures.items)
    (ap (λ (ps : List BlossomPart). parts_in sets ps) c.in-Some-next.ensures.items)
    (c.if-holds.ensures.no refl) (mapped_last (branch_in sets) _ _ _ c.in_ok-hang-2.ensures)
