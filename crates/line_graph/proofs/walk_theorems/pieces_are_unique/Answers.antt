use Rattle.line_graph.proofs.UniquePieceLemmas.{pieces_are_one}
use Rattle.line_graph.proofs.walk_theorems.pieces_are_unique.Goals as goal

pub returns : goal.returns
returns c = pieces_are_one
