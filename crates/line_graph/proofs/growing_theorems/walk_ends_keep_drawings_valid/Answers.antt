use Rattle.line_graph.proofs.GrowingLimitLemmas.{walk_end_valid}
use Rattle.line_graph.proofs.growing_theorems.walk_ends_keep_drawings_valid.Goals as goal

pub returns : goal.returns
returns c = walk_end_valid
