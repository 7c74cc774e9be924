use Rattle.near_pieces.proofs.SameWalkLemmas.{same_graphs_have_same_costs}
use Rattle.near_pieces.proofs.WalkCostLemmas.{closed_walks_begin_anywhere, same_graph}
use Rattle.near_pieces.proofs.near_theorems.near_pieces_keep_costs.Goals as goal

pub returns : goal.returns
returns c = record { graph = same_graph; costs = same_graphs_have_same_costs; anywhere = closed_walks_begin_anywhere }
