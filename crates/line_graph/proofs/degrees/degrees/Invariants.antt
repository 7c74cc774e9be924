use Rattle.std.proofs.Common.{◌≡◌, take, length}
use Rattle.line_graph.proofs.Names.{degrees_from}
use Rattle.line_graph.proofs.degrees.degrees.Given as goal

-- the ends of the edges so far are counted
abbrev pub invariant-loop-edge : goal.invariant-loop-edge
invariant-loop-edge l = record {
  sized : length l.degrees.items ≡ l.junctions;
  counted : l.degrees.items ≡ degrees_from (take l.edge-index l.edges) 0 l.junctions;
}
