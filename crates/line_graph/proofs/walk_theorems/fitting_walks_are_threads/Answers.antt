use Rattle.line_graph.proofs.DrawnWalkLemmas.{fitting_are_threads}
use Rattle.line_graph.proofs.walk_theorems.fitting_walks_are_threads.Goals as goal

pub returns : goal.returns
returns c = fitting_are_threads c.needles_lead_along.ensures
