use Rattle.euler_tour.proofs.Names.{graph_of}
use Rattle.euler_tour.proofs.StepLemmas.{begins_on_first}
use Rattle.euler_tour.proofs.partial_tour.with_first_line.Goals as goal

pub returns-clause-keeps : goal.returns-clause-keeps
returns-clause-keeps c =
    begins_on_first (graph_of c.args.p.now) c.args.t c.take_one.new.left c.push.new.self c.first_pass.result c.far_end.result
    c.args.p.now.kept c.requires.fresh c.requires.closed c.take_one.ensures c.in_ok-push.ensures.ok
    (rw c.as_slice.ensures at c.first_pass.ensures) (rw c.as_slice-2.ensures at c.far_end.ensures)
