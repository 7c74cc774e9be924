-- Used only inside this crate: marks of junctions by their degrees.
use Rattle.std.specs.Prelude.{ℕ, ◌+◌, List, [], ◌∷◌, Option}
use Rattle.design_model.specs.declared.point.Point.{Point}
use Rattle.drawing_picture.specs.declared.junction_marks.JunctionMark.{JunctionMark}
use Rattle.line_graph.specs.ClosedDegrees.{closing_ends}
use Rattle.line_graph.specs.PieceGraphs.{is_odd}

-- The marks of junctions with those degrees and successive numbers from j on, where a closing line
-- leads from `to` to `from`.
abbrev pub tested_marks : (from to : Option ℕ) → ℕ → List Point → List ℕ → List JunctionMark
tested_marks from to j [] degrees = []
tested_marks from to j (at ∷ points) [] = []
tested_marks from to j (at ∷ points) (degree ∷ degrees) =
    record { at = at; is_odd = is_odd (closing_ends from to j + degree) }
    ∷ tested_marks from to (j + 1) points degrees
