use Rattle.line_graph.proofs.JunctionLemmas.{edge_added}
use Rattle.line_graph.proofs.junctions.edge.Goals as goal

pub returns : goal.returns
returns c =
    edge_added c.args.d.now c.args.line _ _ c.args.junctions.now.keys _ _ _ _ _ c.line_ends.ensures.first c.line_ends.ensures.last
    c.in_ok-a.ensures.number c.in_ok-a.ensures.keys c.in_ok-b.ensures.number c.in_ok-b.ensures.keys c.line_cost-cost.ensures
