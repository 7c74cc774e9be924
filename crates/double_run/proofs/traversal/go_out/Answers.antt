use Rattle.std.proofs.Common.{refl}
use Rattle.double_run.proofs.Names.{graph_of}
use Rattle.double_run.proofs.StepLemmas.{out_step}
use Rattle.double_run.proofs.traversal.go_out.Goals as goal

pub returns : goal.returns
returns c =
    out_step (graph_of c.args.p.now) c.args.o.now c.push.new.self c.push-2.new.self _ c.end_of_leg-o.result c.args.leg c.args.p.now.kept
    c.requires.keeps c.requires.ready c.requires.leads (rw (c.pass.ensures, c.as_slice.ensures) at c.in_ok-push.ensures.ok)
    c.in_ok-push-2.ensures.items refl (rw c.as_slice-2.ensures at c.end_of_leg-o.ensures)
