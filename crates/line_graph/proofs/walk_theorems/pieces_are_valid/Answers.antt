use Rattle.line_graph.proofs.EveryPieceLemmas.{pieces_are_valid}
use Rattle.line_graph.proofs.walk_theorems.pieces_are_valid.Goals as goal

pub returns : goal.returns
returns c = pieces_are_valid c.split_points_lead.ensures
