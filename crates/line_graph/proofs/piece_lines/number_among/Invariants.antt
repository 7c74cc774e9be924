use Rattle.std.proofs.Common.{◌≡◌, length}
use Rattle.line_graph.proofs.Names.{first_junction_among}
use Rattle.line_graph.proofs.piece_lines.number_among.Given as goal

-- none of the spots so far is a junction of the block
abbrev pub invariant-loop-rest : goal.invariant-loop-rest
invariant-loop-rest l = first_junction_among l.block l.junctions.keys l.rest ≡ first_junction_among l.block l.junctions.keys l.spots

abbrev pub decreases-loop-rest : goal.decreases-loop-rest
decreases-loop-rest l = length l.rest
