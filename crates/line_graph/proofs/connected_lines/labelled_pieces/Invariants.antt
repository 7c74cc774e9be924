use Rattle.line_graph.proofs.PieceLabelLemmas.{AreCut}
use Rattle.line_graph.proofs.connected_lines.labelled_pieces.Given as goal

-- the pieces that the lines so far begin
abbrev pub invariant-loop-line : goal.invariant-loop-line
invariant-loop-line l = AreCut l.d l.labels l.line l.pieces
