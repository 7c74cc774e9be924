use Rattle.line_graph.proofs.SewnWalkLemmas.{fitting_walks_are_sewable}
use Rattle.line_graph.proofs.walk_theorems.fitting_walks_are_sewable.Goals as goal

pub returns : goal.returns
returns c = fitting_walks_are_sewable c.needles_lead_along.ensures
