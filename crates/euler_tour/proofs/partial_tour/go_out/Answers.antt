use Rattle.euler_tour.proofs.Names.{graph_of}
use Rattle.euler_tour.proofs.StepLemmas.{out_step}
use Rattle.euler_tour.proofs.partial_tour.go_out.Goals as goal

pub returns : goal.returns
returns c =
    out_step (graph_of c.args.p.now) c.args.t.now c.take_one.new.left c.push.new.self c.args.end c.junction_beyond-t.result
    c.args.p.now.kept c.requires.ready c.requires.here c.requires.some (rw c.line_index_of.ensures at c.take_one.ensures)
    c.in_ok-push.ensures.items (rw c.as_slice.ensures at c.junction_beyond-t.ensures)
