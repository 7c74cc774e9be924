-- The marks of places where lines should meet and don't: of each place one, a shape where a point
-- is, or a broad stretch along what two segments share. All are red, as is what is to be mended.
use Rattle.std.specs.Prelude.{ℕ, ◌+◌, ◌==◌, Bool, List, [], ◌∷◌, ◌++◌, codes, if◌then◌else◌}
use Rattle.design_model.specs.declared.point.Point.{Point}
use Rattle.drawing_picture.specs.declared.place_marks.PlaceMark.{PlaceMark}
use Rattle.drawing_picture.specs.declared.place_marks.PlaceMark.TheVariants as place
use Rattle.line_graph.specs.PieceGraphs.{one_if}
use Rattle.line_meetings.specs.declared.meeting.Meeting.{Meeting}
use Rattle.line_meetings.specs.declared.meeting.MeetingKind.{MeetingKind}
use Rattle.line_meetings.specs.declared.meeting.MeetingKind.TheVariants as meeting
use Rattle.picture_parts.specs.Parts.{filled, point_text}

-- The mark of a point that nearly meets a line: an end of its line, or a point inside.
abbrev pub near_mark_of : Bool → PlaceMark
near_mark_of is_end = if is_end then place.LooseEnd else place.NearPoint

-- The mark of a meeting of a kind, whose point may be an end of its line.
abbrev pub mark_of_kind : MeetingKind → Bool → PlaceMark
mark_of_kind meeting.ClosePoints is_end = near_mark_of is_end
mark_of_kind meeting.BesideSegment is_end = near_mark_of is_end
mark_of_kind meeting.OnSegment is_end = place.Unlisted
mark_of_kind meeting.Crossing is_end = place.Crossing
mark_of_kind meeting.Overlap is_end = place.Overlap
mark_of_kind meeting.Repeat is_end = place.Repeat

-- The mark of a meeting.
abbrev pub mark_of_meeting : Meeting → PlaceMark
mark_of_meeting m = mark_of_kind m.kind m.is_end

-- The number of a mark, in the order of the key.
abbrev pub mark_number : PlaceMark → ℕ
mark_number place.LooseEnd = 0
mark_number place.NearPoint = 1
mark_number place.Unlisted = 2
mark_number place.Crossing = 3
mark_number place.Overlap = 4
mark_number place.Repeat = 5

-- How many meetings have the mark of a number.
abbrev pub count_of_mark : ℕ → List Meeting → ℕ
count_of_mark number [] = 0
count_of_mark number (m ∷ rest) =
    one_if (mark_number (mark_of_meeting m) == number) + count_of_mark number rest

-- A shape at a point.
unfoldable pub place_shape : List ℕ → Point → List ℕ
place_shape shape p = filled (codes "<path fill='none' stroke='#d00' stroke-width='3' d='M@@'/>"
    ++ 10 ∷ []) (point_text p ∷ shape ∷ [])

-- A broad stretch between two points, in a style.
unfoldable pub stretch_shape : List ℕ → Point → Point → List ℕ
stretch_shape style p q = filled (codes "<path fill='none' stroke='#d00' opacity='.5' @ d='M@L@'/>"
    ++ 10 ∷ []) (style ∷ point_text p ∷ point_text q ∷ [])

-- A mark at a place, from one point to another: a ring, a square, a square on its corner, a cross,
-- a stretch, and a stretch in dashes.
abbrev pub place_text : PlaceMark → (from to : Point) → List ℕ
place_text place.LooseEnd from to =
    place_shape (codes "m-15,0a15,15,0,1,0,30,0a15,15,0,1,0,-30,0") from
place_text place.NearPoint from to = place_shape (codes "m-13,-13h26v26h-26z") from
place_text place.Unlisted from to = place_shape (codes "m-18,0l18,-18l18,18l-18,18z") from
place_text place.Crossing from to = place_shape (codes "m-13,-13l26,26m-26,0l26,-26") from
place_text place.Overlap from to = stretch_shape (codes "stroke-width='16'") from to
place_text place.Repeat from to =
    stretch_shape (codes "stroke-width='10' stroke-dasharray='2 16'") from to

-- The mark of a meeting, where it is.
abbrev pub meeting_mark : Meeting → List ℕ
meeting_mark m = place_text (mark_of_meeting m) m.from m.to
