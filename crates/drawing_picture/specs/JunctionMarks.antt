-- The marks of a drawing's junctions.
use Rattle.std.specs.Prelude.{ℕ, ◌+◌, List, [], ◌∷◌}
use Rattle.std.specs.List.{flat_map}
use Rattle.design_model.specs.declared.point.Point.{Point}
use Rattle.drawing_picture.specs.declared.junction_marks.JunctionMark.{JunctionMark}
use Rattle.line_graph.specs.PieceGraphs.{PieceValue, is_odd_junction, one_if}

-- The marks of junctions of a piece, with successive numbers from j on.
abbrev pub marks_from : PieceValue → ℕ → List Point → List JunctionMark
marks_from p j [] = []
marks_from p j (at ∷ rest) =
    record { at = at; is_odd = is_odd_junction p j } ∷ marks_from p (j + 1) rest

-- The marks of the junctions of a piece.
abbrev pub marks_of_piece : PieceValue → List JunctionMark
marks_of_piece p = marks_from p 0 p.junctions

-- The marks of the junctions of pieces.
abbrev pub marks_of_pieces : List PieceValue → List JunctionMark
marks_of_pieces pieces = flat_map marks_of_piece pieces

-- The number of odd junctions among marks.
abbrev pub odd_marks : List JunctionMark → ℕ
odd_marks [] = 0
odd_marks (mark ∷ rest) = one_if mark.is_odd + odd_marks rest
