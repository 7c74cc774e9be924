use Rattle.line_graph.proofs.KeptSections.{joined_stay}
use Rattle.line_graph.proofs.drawing_theorems.joined_drawings_stay.Goals as goal

pub returns : goal.returns
returns c = joined_stay c.whole_lines_stay.ensures
