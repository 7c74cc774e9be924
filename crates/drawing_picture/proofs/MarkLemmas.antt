-- The marks of junctions by their degrees are those of the piece, and show its junctions.
use Rattle.std.proofs.Common.{◌≡◌, ℕ, ◌+◌, Bool, true, false, List, [], ◌∷◌, ◌++◌, length, map, ap, ◌∙◌, refl, arith}
use Rattle.std.specs.Prelude.{cond}
use Rattle.drawing_picture.proofs.Names.{filter, flat_map, Point, JunctionMark, marks_of_piece, odd_marks, tested_marks, PieceValue, IsValidPiece, range_with_len, marks_from, degrees_from, given_end, given_start, is_odd_junction, one_if, degree_closed}
use Rattle.picture_parts.specs.Paths.{move_text, straight_text}
use Rattle.drawing_picture.specs.DrawnLaws.{DrawnSegment, MarksShowJunctions, PathsShowSegments, segments_through}

tested : (p : PieceValue) (j : ℕ) (points : List Point)
    → tested_marks (given_start p) (given_end p) j points (degrees_from p.edges j (length points)) ≡ marks_from p j points
tested p j [] = refl
tested p j (at ∷ points) = rw (degree_closed (given_start p) (given_end p) p.edges j, tested p (j + 1) points) refl

-- the degrees of a piece give the marks of its junctions
pub piece_tested : (p : PieceValue) → IsValidPiece p → tested_marks (given_start p) (given_end p) 0 p.junctions p.degrees ≡ marks_of_piece p
piece_tested p keeps =
    ap (λ degrees. tested_marks (given_start p) (given_end p) 0 p.junctions degrees) keeps.counted ∙ tested p 0 p.junctions

points_kept : (p : PieceValue) (j : ℕ) (points : List Point) → map (λ (mark : JunctionMark). mark.at) (marks_from p j points) ≡ points
points_kept p j [] = refl
points_kept p j (at ∷ points) = ap (λ (ps : List Point). at ∷ ps) (points_kept p (j + 1) points)

odd_kept : (p : PieceValue) (j : ℕ) (points : List Point)
    → map (λ (mark : JunctionMark). mark.is_odd) (marks_from p j points) ≡ map (is_odd_junction p) (range_with_len j (length points))
odd_kept p j [] = refl
odd_kept p j (at ∷ points) = ap (λ (odds : List Bool). is_odd_junction p j ∷ odds) (odd_kept p (j + 1) points)

one_more : (test : Bool) (j : ℕ) (rest : List ℕ) → one_if test + length rest ≡ length (cond test (j ∷ rest) rest)
one_more true j rest = omega arith
one_more false j rest = omega arith

odd_counted : (p : PieceValue) (j : ℕ) (points : List Point)
    → odd_marks (marks_from p j points) ≡ length (filter (is_odd_junction p) (range_with_len j (length points)))
odd_counted p j [] = refl
odd_counted p j (at ∷ points) =
    ap (λ (n : ℕ). one_if (is_odd_junction p j) + n) (odd_counted p (j + 1) points)
    ∙ one_more (is_odd_junction p j) j (filter (is_odd_junction p) (range_with_len (j + 1) (length points)))

pub shown : MarksShowJunctions
shown p = record {
  each = points_kept p 0 p.junctions;
  odd = odd_kept p 0 p.junctions;
  count = odd_counted p 0 p.junctions;
}

segments_kept : (p : Point) (rest : List Point)
    → flat_map straight_text rest ≡ flat_map (λ (s : DrawnSegment). straight_text s.to) (segments_through p rest)
segments_kept p [] = refl
segments_kept p (q ∷ rest) = ap (λ (t : List ℕ). straight_text q ++ t) (segments_kept q rest)

pub drawn : PathsShowSegments
drawn p rest = ap (λ (t : List ℕ). move_text p ++ t) (segments_kept p rest)
