use Rattle.double_run.proofs.StepLemmas.{back_step}
use Rattle.double_run.proofs.traversal.come_back.Goals as goal
use Rattle.double_run.proofs.OutingLemmas.{there_push}
use Rattle.std.proofs.Common.{arith}
use Rattle.double_run.proofs.Names.{graph_of, and_parts, nat_tests}

pub pass-requires : goal.pass-requires
pass-requires c =
    rw (c.turned.ensures, c.as_slice.ensures, c.args.p.now.kept.beside)
    (grind (arith, nat_tests, and_parts, there_push, c.in-Some.leg, c.requires.keeps, c.in-Some.ensures.items))

pub bounds-as_slice-leg : goal.bounds-as_slice-leg
bounds-as_slice-leg c =
    rw c.as_slice-2.ensures
    (grind (arith, nat_tests, and_parts, there_push, c.in-Some.leg, c.requires.keeps, c.in-Some.ensures.items))

pub returns : goal.returns
returns c =
    back_step (graph_of c.args.p.now) c.args.o.now c.push.new.self c.pop.new.self c.start_of_leg-o.result c.in-Some.leg
    c.args.p.now.kept c.requires.keeps c.requires.ready c.requires.spent c.in-Some.ensures.items
    (rw (c.pass.ensures, c.turned.ensures, c.as_slice.ensures) at c.in_ok-push.ensures.ok)
    (rw c.as_slice-2.ensures at c.start_of_leg-o.ensures)
