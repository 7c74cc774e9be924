use Rattle.euler_tour.proofs.Names.{graph_of}
use Rattle.euler_tour.proofs.TourLemmas.{finished}
use Rattle.euler_tour.proofs.closed_walk.tour.Goals as goal

pub returns : goal.returns
returns c =
    let over = rw c.if-branch.false at c.in_ok-step.ensures in
    let t = c.step.new.t in
    let k = over.keeps c.args.copies.now c.loop-t.invariant.keeps in
    finished (graph_of c.args.p.now) c.args.copies.now t.left.items t.out.items t.home t.at t.tail c.args.p.now.kept c.requires
    over.empty over.stuck k.keeps k.begins

pub loop-t-preserved : goal.loop-t-preserved
loop-t-preserved c =
    let made = rw c.if-branch.true at c.in_ok-step.ensures in
    record { ready = made.ready; keeps = made.keeps c.args.copies.now c.loop-t.invariant.keeps }
