use Rattle.line_graph.proofs.NeedleLemmas.{needles_lead}
use Rattle.line_graph.proofs.drawing_theorems.needles_lead_along.Goals as goal

pub returns : goal.returns
returns c = needles_lead c.split_points_lead.ensures
