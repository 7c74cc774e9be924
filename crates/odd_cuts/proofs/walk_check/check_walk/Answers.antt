use Rattle.odd_cuts.proofs.Names.{graph_of}
use Rattle.odd_cuts.proofs.ExactWalks.{exact_walks}
use Rattle.odd_cuts.proofs.walk_check.check_walk.Goals as goal

pub returns-clause-exact : goal.returns-clause-exact
returns-clause-exact c =
    exact_walks (graph_of c.args.p.now) c.args.walk.now c.cost_or_fault.result c.args.p.now.kept.some c.cost_or_fault.ensures
