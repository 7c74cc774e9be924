use Rattle.line_graph.proofs.ConnectedSpotLemmas.{spots_are_joined}
use Rattle.line_graph.proofs.walk_theorems.spots_are_connected.Goals as goal

pub returns : goal.returns
returns c = spots_are_joined
