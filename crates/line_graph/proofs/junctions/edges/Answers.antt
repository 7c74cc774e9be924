use Rattle.line_graph.proofs.JunctionLemmas.{next_edge}
use Rattle.line_graph.proofs.junctions.edges.Goals as goal

pub loop-line-preserved : goal.loop-line-preserved
loop-line-preserved c =
    rw c.in_ok-push.ensures.ok
    (next_edge c.args.d.now c.args.lines.now c.loop-line.line-index _ _ _ _ _
    c.loop-line-test.true c.loop-line.invariant c.in_ok-edge.ensures)
