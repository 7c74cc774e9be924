use Rattle.line_graph.proofs.JunctionLemmas.{AreEdges}
use Rattle.line_graph.proofs.junctions.edges.Given as goal

-- the edges so far, and the junctions at their ends
abbrev pub invariant-loop-line : goal.invariant-loop-line
invariant-loop-line l = AreEdges l.d l.lines l.line-index l.junctions.keys l.edges
