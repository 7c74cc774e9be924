-- Worked values of the picture of a drawing, by hand.
use Rattle.std.proofs.Common.{◌≡◌, pos, negsuc, true, false, [], ◌∷◌, ◌++◌, Some, None, codes, map, refl}
use Rattle.std.specs.Fmt.{digits}
use Rattle.drawing_picture.proofs.Names.{JunctionMark, flat_map, junction_dot, thread_lines, marks_of_piece, odd_marks, line_paths, PieceValue, points_of_lines}
use Rattle.design_model.specs.Extents.{extent_of_points}
use Rattle.design_picture.specs.Captions.{block_start}
use Rattle.drawing_picture.specs.DrawingCaptions.{counts_text, thread_end}
use Rattle.drawing_picture.specs.DrawnLaws.{MarksShowJunctions}
use Rattle.picture_parts.specs.Colours.{colour_of_thread}
use Rattle.picture_parts.specs.Marks.{mark_text, shape_at}
use Rattle.picture_parts.specs.Parts.{around, filled}
use Rattle.picture_parts.specs.Paths.{coloured_path, move_text, path_end, straight_text}
use Rattle.picture_parts.specs.ThreadNames.{name_of_thread}
use Rattle.drawing_picture.proofs.BandFacts.{at, point}

-- Two lines in blocks of the threads 5 and 20: each is a path through its points, in its colour.
pub known_paths : line_paths (5 ∷ 20 ∷ []) (record { block = 0; points = at 0 ∷ at 20 ∷ point (pos 20) (negsuc 4) ∷ [] }
    ∷ record { block = 1; points = at 7 ∷ at 9 ∷ [] } ∷ [])
    ≡ codes "<path class='thread' stroke='#ed171f' d='"
    ++ (10 ∷ codes "M0,0L20,0L20,-5'/>" ++ (10 ∷ codes "<path class='thread' stroke='#000000' d='"
    ++ (10 ∷ codes "M7,0L9,0'/>" ++ 10 ∷ [])))
unfolding around filled digits coloured_path move_text straight_text path_end colour_of_thread
known_paths = refl

pub known_extent : extent_of_points (points_of_lines (record { block = 0; points = at 4 ∷ point (pos 9) (negsuc 4) ∷ [] }
    ∷ record { block = 1; points = at 1 ∷ [] } ∷ []))
    ≡ Some (record { min = point (pos 1) (negsuc 4); max = point (pos 9) (pos 0) })
known_extent = refl

-- A line between two junctions, and a loop at the second: the first junction is odd, the second, with three ends, too. With a given
-- start and end at the two, both are even.
abbrev piece : PieceValue
piece = record {
  block = 0;
  lines = 0 ∷ 1 ∷ [];
  junctions = at 0 ∷ at 20 ∷ [];
  edges = record { a = 0; b = 1; cost = 2 } ∷ record { a = 1; b = 1; cost = 3 } ∷ [];
  degrees = 1 ∷ 3 ∷ [];
  start = None;
  end = None;
}

pub known_marks_of_piece : (marks_of_piece piece ≡ record { at = at 0; is_odd = true } ∷ record { at = at 20; is_odd = true } ∷ [])
    × (marks_of_piece (record piece { start = Some 0; end = Some 1 })
    ≡ record { at = at 0; is_odd = false } ∷ record { at = at 20; is_odd = false } ∷ [])
known_marks_of_piece = (refl, refl)

pub known_odd : odd_marks (record { at = at 0; is_odd = true } ∷ record { at = at 1; is_odd = false }
    ∷ record { at = at 2; is_odd = true } ∷ []) ≡ 2
known_odd = refl

pub known_dots : flat_map junction_dot (record { at = at 7; is_odd = true } ∷ record { at = at 9; is_odd = false } ∷ [])
    ≡ codes "<path fill='#ffd400' stroke='#222' stroke-width='2' d='M7,0m-9,0a9,9,0,1,0,18,0a9,9,0,1,0,-18,0'/>"
    ++ (10 ∷ codes "<path fill='#222' d='M9,0m-5,0a5,5,0,1,0,10,0a5,5,0,1,0,-10,0'/>" ++ 10 ∷ [])
unfolding filled digits mark_text shape_at
known_dots = refl

pub known_counts : counts_text 2 30 4 1 7
    ≡ codes "<text y='72'>pieces 2, junctions 30, odd junctions 4</text>"
    ++ (10 ∷ codes "<text y='100'>lines 1 as drawn, 7 as sewn</text>" ++ 10 ∷ [])
unfolding filled digits counts_text
known_counts = refl

pub known_threads : thread_lines 1 (5 ∷ []) ≡ codes "<g transform='translate(0,28)'><path stroke-width='14' d='M7,-7h26' stroke='#ed171f'/>"
    ++ (codes "<text x='52'>thread 5</text><text class='small' x='165'>Red</text></g>" ++ 10 ∷ [])
unfolding filled digits block_start thread_end colour_of_thread name_of_thread
known_threads = refl

-- Its marks are one for each junction, in order; both are odd.
pub known_marks_law : MarksShowJunctions → (map (λ (mark : JunctionMark). mark.at) (marks_of_piece piece) ≡ at 0 ∷ at 20 ∷ [])
    × (map (λ (mark : JunctionMark). mark.is_odd) (marks_of_piece piece) ≡ true ∷ true ∷ []) × (odd_marks (marks_of_piece piece) ≡ 2)
known_marks_law law = let marks = law piece in (marks.each, marks.odd, marks.count)
