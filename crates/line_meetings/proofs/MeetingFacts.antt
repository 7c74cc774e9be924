-- Worked meetings of small drawings. The values are those of a script of its own.
use Rattle.std.proofs.Common.{◌≡◌, ℕ, pos, true, false, Bool, List, [], ◌∷◌, ◌++◌, refl}
use Rattle.design_model.specs.declared.point.Point.{Point}
use Rattle.line_sections.specs.Lines.{LineValue}
use Rattle.line_sections.specs.Sections.{lines_through}
use Rattle.drawing_review.specs.Frames.{grid_point}
use Rattle.line_meetings.specs.declared.meeting.Meeting.{Meeting}
use Rattle.line_meetings.specs.declared.meeting.MeetingKind.{MeetingKind}
use Rattle.line_meetings.specs.declared.meeting.MeetingKind.TheVariants as meeting
use Rattle.line_meetings.specs.Bounds.{are_bounds_apart, bounds_around, bounds_of}
use Rattle.line_meetings.specs.Meetings.{meetings_of_lines}
use Rattle.line_meetings.specs.Parts.{segment_part}
use Rattle.line_meetings.specs.Telling.{told}
use Rattle.line_meetings.specs.Touches.{crossing_of, do_overlap, drawn_point, is_beside, lies_on_side, mean_coordinate, nearest_on}
use Rattle.line_meetings.proofs.Names.{LineSegment, least_near}

abbrev at : ℕ → ℕ → Point
at x y = record { x = pos x; y = pos y }

abbrev from_to : Point → Point → LineSegment
from_to p q = segment_part (record { block = 0; line = 0; number = 0; is_first = false; is_last = false }) p q

-- halves are rounded up, and a mean without weights is the first number
pub known_means : (mean_coordinate 10 20 3 1 ≡ 13) × (mean_coordinate 20 10 1 3 ≡ 13) × (mean_coordinate 10 20 4 1 ≡ 12)
    × (mean_coordinate 7 9 0 0 ≡ 7) × (mean_coordinate 7 9 0 5 ≡ 9)
known_means = (refl, refl, refl, refl, refl)

-- inside a segment, before it, and beyond it
pub known_nearest : (drawn_point (nearest_on (from_to (at 0 0) (at 40 20)) (grid_point (at 20 12))) ≡ at 21 10)
    × (drawn_point (nearest_on (from_to (at 10 0) (at 40 20)) (grid_point (at 0 0))) ≡ at 10 0)
    × (drawn_point (nearest_on (from_to (at 40 20) (at 10 0)) (grid_point (at 60 30))) ≡ at 40 20)
known_nearest = (refl, refl, refl)

-- a crossing has the same point whichever segment is first
pub known_crossing_points : (drawn_point (crossing_of (from_to (at 0 30) (at 40 30)) (from_to (at 30 60) (at 31 1))) ≡ at 31 30)
    × (drawn_point (crossing_of (from_to (at 30 60) (at 31 1)) (from_to (at 40 30) (at 0 30))) ≡ at 31 30)
known_crossing_points = (refl, refl)

-- beside a segment, too far, and near its end
pub known_beside : (is_beside 2 (grid_point (at 20 12)) (from_to (at 0 0) (at 40 20)) ≡ true)
    × (is_beside 1 (grid_point (at 20 12)) (from_to (at 0 0) (at 40 20)) ≡ false)
    × (is_beside 0 (grid_point (at 20 10)) (from_to (at 0 0) (at 40 20)) ≡ true)
    × (is_beside 2 (grid_point (at 38 20)) (from_to (at 0 0) (at 40 20)) ≡ false)
    × (is_beside 2 (grid_point (at 2 1)) (from_to (at 0 0) (at 40 20)) ≡ false)
known_beside = (refl, refl, refl, refl, refl)

pub known_distances : (least_near 5 0 (grid_point (at 20 12)) (from_to (at 0 0) (at 40 20)) ≡ 2)
    × (least_near 5 0 (grid_point (at 20 10)) (from_to (at 0 0) (at 40 20)) ≡ 0)
    × (least_near 5 0 (grid_point (at 20 20)) (from_to (at 0 0) (at 40 20)) ≡ 5)
known_distances = (refl, refl, refl)

-- a part that both have, one point, none, and another line
pub known_overlaps : (do_overlap (from_to (at 0 0) (at 40 20)) (from_to (at 60 30) (at 20 10)) ≡ true)
    × (do_overlap (from_to (at 0 0) (at 40 20)) (from_to (at 10 5) (at 20 10)) ≡ true)
    × (do_overlap (from_to (at 0 0) (at 40 20)) (from_to (at 40 20) (at 60 30)) ≡ false)
    × (do_overlap (from_to (at 0 0) (at 40 20)) (from_to (at 42 21) (at 60 30)) ≡ false)
    × (do_overlap (from_to (at 0 0) (at 40 20)) (from_to (at 20 10) (at 60 31)) ≡ false)
known_overlaps = (refl, refl, refl, refl, refl)

-- on one side, on both, with an end on the line, and along it
pub known_sides : (lies_on_side (from_to (at 0 0) (at 40 20)) (from_to (at 0 1) (at 40 30)) ≡ true)
    × (lies_on_side (from_to (at 0 0) (at 40 20)) (from_to (at 10 0) (at 50 20)) ≡ true)
    × (lies_on_side (from_to (at 0 0) (at 40 20)) (from_to (at 0 10) (at 40 10)) ≡ false)
    × (lies_on_side (from_to (at 0 0) (at 40 20)) (from_to (at 20 10) (at 40 30)) ≡ false)
    × (lies_on_side (from_to (at 0 0) (at 40 20)) (from_to (at 20 10) (at 60 30)) ≡ false)
known_sides = (refl, refl, refl, refl, refl)

-- diagonals side by side are apart, and a square around a point meets a diagonal
pub known_bounds : (are_bounds_apart (bounds_of (from_to (at 0 0) (at 40 40))) (bounds_of (from_to (at 5 0) (at 45 40))) ≡ true)
    × (are_bounds_apart (bounds_of (from_to (at 0 40) (at 40 0))) (bounds_of (from_to (at 5 40) (at 45 0))) ≡ true)
    × (are_bounds_apart (bounds_around 2 (grid_point (at 24 20))) (bounds_of (from_to (at 0 0) (at 40 40))) ≡ false)
    × (are_bounds_apart (bounds_around 1 (grid_point (at 24 20))) (bounds_of (from_to (at 0 0) (at 40 40))) ≡ true)
    × (are_bounds_apart (bounds_around 2 (grid_point (at 43 20))) (bounds_of (from_to (at 0 0) (at 40 20))) ≡ true)
known_bounds = (refl, refl, refl, refl, refl)

-- so are long segments that rise or fall by one in two
pub known_slants : (are_bounds_apart (bounds_of (from_to (at 0 0) (at 20 40))) (bounds_of (from_to (at 3 0) (at 23 40))) ≡ true)
    × (are_bounds_apart (bounds_of (from_to (at 0 0) (at 40 20))) (bounds_of (from_to (at 0 2) (at 40 22))) ≡ true)
    × (are_bounds_apart (bounds_of (from_to (at 0 40) (at 20 0))) (bounds_of (from_to (at 2 40) (at 22 0))) ≡ true)
    × (are_bounds_apart (bounds_of (from_to (at 0 20) (at 40 0))) (bounds_of (from_to (at 0 22) (at 40 2))) ≡ true)
    × (are_bounds_apart (bounds_around 2 (grid_point (at 12 17))) (bounds_of (from_to (at 0 0) (at 20 40))) ≡ true)
    × (are_bounds_apart (bounds_around 3 (grid_point (at 12 17))) (bounds_of (from_to (at 0 0) (at 20 40))) ≡ false)
known_slants = (refl, refl, refl, refl, refl, refl)

abbrev HasMeetings : ℕ → List LineValue → List Meeting → Type 0
HasMeetings gap lines meetings = meetings_of_lines gap lines ≡ meetings

abbrev found : MeetingKind → (block line index : ℕ) → Bool → (other other_index : ℕ) → (from to : Point) → ℕ → Meeting
found kind block line index is_end other other_index from to distance = record {
  kind = kind;
  block = block;
  line = line;
  index = index;
  is_end = is_end;
  other = other;
  other_index = other_index;
  from = from;
  to = to;
  distance = distance;
}

-- two ends that nearly meet, unless they are in two blocks
pub known_close : HasMeetings 2 (lines_through 3 ((at 0 0 ∷ at 20 0 ∷ []) ∷ (at 22 1 ∷ at 40 20 ∷ []) ∷ []))
    (found meeting.ClosePoints 3 0 1 true 1 0 (at 20 0) (at 22 1) 2 ∷ [])
unfolding told
known_close = refl

pub known_apart : HasMeetings 2 (lines_through 0 ((at 0 0 ∷ at 20 0 ∷ []) ∷ []) ++ lines_through 1 ((at 22 1 ∷ at 40 20 ∷ []) ∷ [])) []
unfolding told
known_apart = refl

-- neighbours that are as close as the gap are joined near by, also where two lines meet
pub known_joined : HasMeetings 2 (lines_through 0 ((at 0 0 ∷ at 2 0 ∷ at 2 2 ∷ at 30 2 ∷ []) ∷ (at 0 0 ∷ at 0 30 ∷ []) ∷ [])) []
unfolding told
known_joined = refl

-- an end beside a segment, and on both sides of one
pub known_passed : HasMeetings 2 (lines_through 0 ((at 0 0 ∷ at 40 20 ∷ []) ∷ (at 20 40 ∷ at 20 12 ∷ []) ∷ []))
    (found meeting.BesideSegment 0 1 1 true 0 0 (at 20 12) (at 21 10) 2 ∷ [])
unfolding told
known_passed = refl

-- an end beside its own line
pub known_own : HasMeetings 2 (lines_through 0 ((at 0 0 ∷ at 50 0 ∷ at 50 50 ∷ at 20 50 ∷ at 20 1 ∷ []) ∷ []))
    (found meeting.BesideSegment 0 0 4 true 0 0 (at 20 1) (at 20 0) 1 ∷ [])
unfolding told
known_own = refl

-- a point inside a line on a segment of another, which then lists it
pub known_on : HasMeetings 0 (lines_through 0 ((at 0 0 ∷ at 40 20 ∷ []) ∷ (at 20 40 ∷ at 20 10 ∷ at 9 4 ∷ []) ∷ []))
    (found meeting.OnSegment 0 1 1 false 0 0 (at 20 10) (at 20 10) 0 ∷ [])
unfolding told
known_on = refl

pub known_listed : HasMeetings 0 (lines_through 0 ((at 0 0 ∷ at 20 10 ∷ at 40 20 ∷ []) ∷ (at 20 40 ∷ at 20 10 ∷ at 9 4 ∷ []) ∷ [])) []
unfolding told
known_listed = refl

-- a line that crosses two others, in either order of the lines
pub known_crossings : HasMeetings 2 (lines_through 0 ((at 0 30 ∷ at 40 30 ∷ []) ∷ (at 30 60 ∷ at 31 1 ∷ []) ∷
    (at 10 1 ∷ at 10 60 ∷ []) ∷ []))
    (found meeting.Crossing 0 0 0 false 1 0 (at 31 30) (at 31 30) 0 ∷ found meeting.Crossing 0 0 0 false 2 0 (at 10 30) (at 10 30) 0 ∷ [])
unfolding told
known_crossings = refl

pub known_crossings_turned :
    HasMeetings 2 (lines_through 0 ((at 30 60 ∷ at 31 1 ∷ []) ∷ (at 10 1 ∷ at 10 60 ∷ []) ∷ (at 0 30 ∷ at 40 30 ∷ []) ∷ []))
    (found meeting.Crossing 0 0 0 false 2 0 (at 31 30) (at 31 30) 0 ∷ found meeting.Crossing 0 1 0 false 2 0 (at 10 30) (at 10 30) 0 ∷ [])
unfolding told
known_crossings_turned = refl

-- two segments that share a part: an end of each lies on the other
pub known_shared : HasMeetings 0 (lines_through 0 ((at 0 0 ∷ at 40 20 ∷ []) ∷ (at 20 10 ∷ at 60 30 ∷ []) ∷ []))
    (found meeting.OnSegment 0 0 1 true 1 0 (at 40 20) (at 40 20) 0 ∷ found meeting.OnSegment 0 1 0 true 0 0 (at 20 10) (at 20 10) 0
    ∷ found meeting.Overlap 0 0 0 false 1 0 (at 20 10) (at 40 20) 0 ∷ [])
unfolding told
known_shared = refl

-- a segment that is drawn again the other way
pub known_repeated : HasMeetings 0 (lines_through 0 ((at 0 0 ∷ at 20 0 ∷ at 40 0 ∷ []) ∷ (at 40 0 ∷ at 20 0 ∷ []) ∷ []))
    (found meeting.Repeat 0 1 0 false 0 1 (at 20 0) (at 40 0) 0 ∷ [])
unfolding told
known_repeated = refl
