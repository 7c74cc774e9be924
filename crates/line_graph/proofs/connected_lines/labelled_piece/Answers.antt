use Rattle.std.proofs.Common.{List, ℕ, sym, subst, arith}
use Rattle.line_graph.proofs.Names.{IsPiece}
use Rattle.line_graph.proofs.PieceLabelLemmas.{labelled_part}
use Rattle.line_graph.proofs.connected_lines.labelled_piece.Goals as goal

pub piece_of-requires : goal.piece_of-requires
piece_of-requires c =
    subst (λ (lines : List ℕ). IsPiece c.args.d.now lines) (sym c.in_ok-lines.ensures)
    (labelled_part c.args.d.now c.args.labels.now c.requires.labels c.args.label (omega (arith, c.requires.there, c.requires.labels.sized))
    c.requires.first)
