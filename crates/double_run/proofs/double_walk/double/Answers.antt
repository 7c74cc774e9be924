use Rattle.double_run.proofs.Names.{graph_of}
use Rattle.double_run.proofs.HomeLemmas.{double_fits}
use Rattle.double_run.proofs.StepLemmas.{finished, finished_cost}
use Rattle.double_run.proofs.double_walk.double.Goals as goal

pub returns-clause-double : goal.returns-clause-double
returns-clause-double c =
    finished (graph_of c.args.p.now) c.loop-o.o c.step.new.o c.args.p.now.kept c.loop-o.invariant
    (rw c.if-branch.false at c.in_ok-step.ensures)

pub returns-clause-fits : goal.returns-clause-fits
returns-clause-fits c =
    double_fits (graph_of c.args.p.now) c.step.new.o.walk c.args.p.now.kept
    (finished (graph_of c.args.p.now) c.loop-o.o c.step.new.o c.args.p.now.kept c.loop-o.invariant
    (rw c.if-branch.false at c.in_ok-step.ensures))

pub returns-clause-cost : goal.returns-clause-cost
returns-clause-cost c =
    finished_cost (graph_of c.args.p.now) c.loop-o.o c.step.new.o c.args.p.now.kept c.loop-o.invariant
    (rw c.if-branch.false at c.in_ok-step.ensures)

pub loop-o-preserved : goal.loop-o-preserved
loop-o-preserved c =
    let made = rw c.if-branch.true at c.in_ok-step.ensures in
    record {
      keeps = made.on.keeps;
      ready = made.on.ready;
      begins = made.on.begins c.loop-o.invariant.begins;
      first = made.on.first c.loop-o.invariant.first;
    }
