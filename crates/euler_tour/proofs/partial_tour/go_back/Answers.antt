use Rattle.euler_tour.proofs.Names.{graph_of}
use Rattle.euler_tour.proofs.CursorLemmas.{below_parts}
use Rattle.euler_tour.proofs.StepLemmas.{back_step}
use Rattle.euler_tour.proofs.partial_tour.go_back.Goals as goal

pub pass_back-requires : goal.pass_back-requires
pass_back-requires c =
    let ends = rw c.in-Some.ensures.items at c.requires.ready.ends in
    rw (c.as_slice.ensures, c.args.p.now.kept.beside) (below_parts _ c.pop.new.self.items c.in-Some.end ends).1

pub junction_of-from-requires : goal.junction_of-from-requires
junction_of-from-requires c =
    let ends = rw c.in-Some.ensures.items at c.requires.ready.ends in
    rw c.as_slice-2.ensures (below_parts _ c.pop.new.self.items c.in-Some.end ends).1

pub returns : goal.returns
returns c =
    back_step (graph_of c.args.p.now) c.args.t.now c.pop.new.self c.push.new.self c.in-Some.end c.junction_of-from.result
    c.args.p.now.kept c.requires.ready c.requires.stuck c.in-Some.ensures.items
    (rw (c.pass_back.ensures, c.as_slice.ensures) at c.in_ok-push.ensures.ok) (rw c.as_slice-2.ensures at c.junction_of-from.ensures)
