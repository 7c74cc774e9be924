use Rattle.std.proofs.Common.{◌≡◌, ◌*◌, length}
use Rattle.euler_tour.proofs.Names.{AreBefore, AreLast}
use Rattle.euler_tour.proofs.line_ends.chain.Given as goal

-- the chains of the ends of the edges so far
abbrev pub invariant-loop-edge : goal.invariant-loop-edge
invariant-loop-edge l = record {
  last : AreLast l.edges (2 * l.edge-index) l.ends.last.items;
  before : AreBefore l.edges l.ends.before.items;
  junctions : length l.ends.last.items ≡ l.junctions;
  all : length l.ends.before.items ≡ 2 * l.edge-index;
}
