use Rattle.line_graph.proofs.SectionCosts.{cost_kept}
use Rattle.line_graph.proofs.drawing_theorems.sections_keep_cost.Goals as goal

pub returns : goal.returns
returns c d = cost_kept c.sections_keep_segments.ensures.segments d.step d.lines
