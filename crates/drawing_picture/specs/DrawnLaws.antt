-- What the picture of a drawing shows of its lines and pieces.
use Rattle.std.specs.Prelude.{◌≡◌, List, [], ◌∷◌, ◌++◌, length, map}
use Rattle.std.specs.List.{flat_map, range_with_len}
use Rattle.design_model.specs.declared.point.Point.{Point}
use Rattle.picture_parts.specs.Paths.{move_text, straight_text}
use Rattle.drawing_picture.specs.declared.junction_marks.JunctionMark.{JunctionMark}
use Rattle.drawing_picture.specs.JunctionMarks.{marks_of_piece, odd_marks}
use Rattle.drawing_picture.specs.LinePaths.{path_text}
use Rattle.line_graph.specs.PieceGraphs.{PieceValue, is_odd_junction, odd_junctions}

-- Each junction of a piece has one mark, in the order of the junctions, and it is odd where the
-- junction is.
pub record MarksJunctions (p : PieceValue) : Type 0 where
  pub each : map (λ (mark : JunctionMark). mark.at) (marks_of_piece p) ≡ p.junctions
  pub odd : map (λ (mark : JunctionMark). mark.is_odd) (marks_of_piece p)
      ≡ map (is_odd_junction p) (range_with_len 0 (length p.junctions))
  pub count : odd_marks (marks_of_piece p) ≡ length (odd_junctions p)

-- The marks of a piece show its junctions.
abbrev pub MarksShowJunctions : Type 0
MarksShowJunctions = (p : PieceValue) → MarksJunctions p

-- A segment of a line.
pub record DrawnSegment : Type 0 where
  pub from : Point
  pub to : Point

-- The segments from a point through further ones.
abbrev pub segments_through : Point → List Point → List DrawnSegment
segments_through p [] = []
segments_through p (q ∷ rest) = record { from = p; to = q } ∷ segments_through q rest

-- The path of a line begins at its first point. Each segment is then drawn once and in order: it is
-- a straight stitch to its end, from the end of the one before.
abbrev pub PathsShowSegments : Type 0
PathsShowSegments = (p : Point) (rest : List Point) → path_text (p ∷ rest)
    ≡ move_text p ++ flat_map (λ (s : DrawnSegment). straight_text s.to) (segments_through p rest)
