use Rattle.std.proofs.Common.{◌∙◌, ap, replicate, ℕ, arith}
use Rattle.std.proofs.lemmas.List.{nil_from_length}
use Rattle.route_core.proofs.Names.{nat_tests, graph_of}
use Rattle.route_core.proofs.PairLemmas.{begun, ended, first_pair, goes_on}
use Rattle.route_core.proofs.copies.copies_of.Goals as goal

pub loop-pair-init : goal.loop-pair-init
loop-pair-init c =
    begun (graph_of c.args.p.now) c.args.rows.now c.args.pairs.now c.in_ok-copies.copies.items
    (c.in_ok-copies.ensures.items_if_clones_equal (λ y. λ h. h) ∙ ap (λ (n : ℕ). replicate n 0) c.len.ensures) c.requires.pairs
    c.requires.few

pub add_pair-requires-clause-pair : goal.add_pair-requires-clause-pair
add_pair-requires-clause-pair c =
    first_pair c.args.rows.now c.loop-pair.rest.now c.in-Some.after.now c.in-Some.pair.now c.in-Some.ensures.cases.0
    c.loop-pair.invariant.there

pub add_pair-requires-clause-few : goal.add_pair-requires-clause-few
add_pair-requires-clause-few c = grind (arith, nat_tests, ap)

pub loop-pair-preserved : goal.loop-pair-preserved
loop-pair-preserved c =
    goes_on (graph_of c.args.p.now) c.args.rows.now c.args.pairs.now c.loop-pair.copies.items c.add_pair.new.copies.items
    c.loop-pair.rest.now c.in-Some.after.now c.in-Some.pair.now
    c.in-Some.ensures.cases.0 c.loop-pair.invariant c.in_ok-add_pair.ensures

pub returns : goal.returns
returns c =
    ended (graph_of c.args.p.now) c.args.rows.now c.args.pairs.now c.loop-pair.copies.items c.loop-pair.rest.now
    (nil_from_length _ c.in_default.ensures.cases) c.loop-pair.invariant
