use Rattle.std.proofs.Common.{◌∙◌, arith}
use Rattle.euler_tour.proofs.Names.{graph_of, nat_tests}
use Rattle.euler_tour.proofs.LeftLemmas.{copies_fit}
use Rattle.euler_tour.proofs.StepLemmas.{begins_fresh}
use Rattle.euler_tour.proofs.TourLemmas.{begins_even}
use Rattle.euler_tour.proofs.partial_tour.empty_tour.Goals as goal

pub all_times-requires : goal.all_times-requires
all_times-requires c = copies_fit c.args.copies.now c.requires.few

pub returns-clause-keeps : goal.returns-clause-keeps
returns-clause-keeps c =
    let p = graph_of c.args.p.now in
    let copies = c.args.copies.now in
    rw (c.goal.ensures, c.head.ensures)
    (grind (arith, nat_tests, c.in_ok-all_times.ensures, c.new.ensures.items, c.new-2.ensures, (begins_even p copies c.requires)))

pub returns-clause-fresh : goal.returns-clause-fresh
returns-clause-fresh c =
    begins_fresh (graph_of c.args.p.now) c.args.copies.now c.in_ok-all_times.field-0 c.new.result c.in_ok-chain.field-0
    c.new-2.result c.goal.result c.head.result c.args.p.now.kept c.requires c.in_ok-all_times.ensures
    (rw c.as_slice.ensures at c.in_ok-chain.ensures.last) (rw c.as_slice.ensures at c.in_ok-chain.ensures.before)
    (c.in_ok-chain.ensures.junctions ∙ c.len.ensures) (rw c.as_slice.ensures at c.in_ok-chain.ensures.all) c.new.ensures.items
    c.new-2.ensures c.goal.ensures
