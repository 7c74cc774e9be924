use Rattle.std.proofs.Common.{◌≡◌, ◌+◌, drop}
use Rattle.line_graph.proofs.Names.{edge_cost, edge_sum}
use Rattle.line_graph.proofs.piece_terms.cost_of_edges.Given as goal

-- the cost so far and that of the edges that are left are the total cost
abbrev pub invariant-loop-edge : goal.invariant-loop-edge
invariant-loop-edge l = l.cost + edge_sum edge_cost (drop l.edge-index l.edges) ≡ edge_sum edge_cost l.edges
