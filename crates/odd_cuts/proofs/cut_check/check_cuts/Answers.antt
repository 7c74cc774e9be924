use Rattle.odd_cuts.proofs.Names.{graph_of}
use Rattle.odd_cuts.proofs.ExactCuts.{exact_cuts}
use Rattle.odd_cuts.proofs.cut_check.check_cuts.Goals as goal

pub returns-clause-exact : goal.returns-clause-exact
returns-clause-exact c =
    exact_cuts (graph_of c.args.p.now) c.args.retraced c.args.cuts.now c.first_fault.result c.args.p.now.kept.beside
    (rw c.as_slice.ensures at c.first_fault.ensures)
