use Rattle.std.proofs.Common.{arith, List, length, ◌<◌, subst}
use Rattle.odd_sets.proofs.Names.{nat_tests, PartHoldsAt, part_in, parts_in, BlossomPart}
use Rattle.odd_sets.proofs.ListLemmas.{mapped_low}
use Rattle.odd_sets.proofs.ReversalLemmas.{goes_on, goes_back, turned_places}
use Rattle.odd_sets.proofs.expanding.even_way.Goals as goal

pub part_with-end-requires : goal.part_with-end-requires
part_with-end-requires c =
    grind (arith, nat_tests, c.requires.exit_in, turned_places)

pub returns-then-end-eq0 : goal.returns-then-end-eq0
returns-then-end-eq0 c =
    goes_on c.args.entry c.args.exit (parts_in c.args.sets.now c.args.parts.items)
    (parts_in c.args.sets.now c.turned_to-blossom.result.items) c.part_with-end.result c.requires.blossom
    c.turned_to-blossom.ensures.turned c.turned_to-blossom.ensures.first
    (mapped_low (part_in c.args.sets.now) c.turned_to-blossom.result.items c.part_with-end.result
    (subst (λ (qs : List BlossomPart). c.part_with-end.result < length qs) c.deref.ensures.value c.part_with-end.ensures.within))
    (subst (λ (qs : List BlossomPart). PartHoldsAt c.args.exit (parts_in c.args.sets.now qs) c.part_with-end.result) c.deref.ensures.value
    c.part_with-end.ensures.there)
    c.if-end-eq0.true

pub returns-in_ok-back : goal.returns-in_ok-back
returns-in_ok-back c =
    goes_back c.args.entry c.args.exit (parts_in c.args.sets.now c.args.parts.items)
    (parts_in c.args.sets.now c.turned_to-blossom.result.items) (parts_in c.args.sets.now c.in_ok-back.back.items) c.part_with-end.result
    c.requires.blossom c.turned_to-blossom.ensures.turned c.turned_to-blossom.ensures.first
    (mapped_low (part_in c.args.sets.now) c.turned_to-blossom.result.items c.part_with-end.result
    (subst (λ (qs : List BlossomPart). c.part_with-end.result < length qs) c.deref.ensures.value c.part_with-end.ensures.within))
    (subst (λ (qs : List BlossomPart). PartHoldsAt c.args.exit (parts_in c.args.sets.now qs) c.part_with-end.result) c.deref.ensures.value
    c.part_with-end.ensures.there)
    (omega (arith, c.if-end-eq0.false)) (c.in_ok-back.ensures c.args.sets.now)
