use Rattle.line_graph.proofs.PieceLimits.{pieces_keep_limits}
use Rattle.line_graph.proofs.walk_theorems.pieces_keep_limits.Goals as goal

pub returns : goal.returns
returns c = pieces_keep_limits
