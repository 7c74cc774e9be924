-- Worked values of puts, in tenths of a millimetre.
use Rattle.std.proofs.Common.{◌≡◌, ℕ, pos, negsuc, true, false, List, [], ◌∷◌, Some, None, refl}
use Rattle.design_model.specs.declared.point.Point.{Point}
use Rattle.drawing_review.specs.declared.grid_point.GridPoint.{GridPoint}
use Rattle.drawing_review.specs.Frames.{grid_point}
use Rattle.line_sections.specs.Lines.{LineValue}
use Rattle.line_sections.specs.Sections.{lines_through}
use Rattle.meeting_rounds.specs.FilledLines.{filled_lines, filled_points, places_put}
use Rattle.meeting_rounds.specs.PlaceNumbers.{place_number_of, point_of_place}
use Rattle.meeting_rounds.specs.Puts.{may_be_put, put_of}
use Rattle.meeting_rounds.specs.TrackedLines.{lines_as_worked, tracked_lines, tracked_point, tracked_points}
use Rattle.meeting_rounds.specs.declared.puts.Put.{Put}
use Rattle.meeting_rounds.specs.declared.tracked_lines.TrackedLine.{TrackedLine}
use Rattle.meeting_rounds.specs.declared.tracked_lines.TrackedPoint.{TrackedPoint}

abbrev at : ℕ → ℕ → Point
at x y = record { x = pos x; y = pos y }

abbrev grid : ℕ → ℕ → GridPoint
grid x y = grid_point (at x y)

-- both axes count in how far along, then the coordinates
pub known_numbers : (place_number_of (record { x = 10; y = 20 }) (record { x = 13; y = 18 }) ≡ 21475688466)
    × (place_number_of (record { x = 13; y = 18 }) (record { x = 10; y = 20 }) ≡ 21475491860)
known_numbers = (refl, refl)

-- the coordinates count from -30,000
pub known_points : (point_of_place 21475688466 ≡ record { x = negsuc 29986; y = negsuc 29981 })
    × (point_of_place (place_number_of (grid 0 0) (grid 13 18)) ≡ at 13 18)
known_points = (refl, refl)

-- points of a line from 0 0 to 40 0, and one that was put 1 below it
abbrev start : TrackedPoint
start = tracked_point (at 0 0) (at 40 0)

abbrev bent : TrackedPoint
bent = record { at = at 20 1; from = at 0 0; to = at 40 0; drawn = None }

abbrev finish : TrackedPoint
finish = tracked_point (at 40 0) (at 40 0)

-- within one more than the gap of the segment as drawn, and at neither end
pub known_room : (may_be_put 0 start finish (grid 20 1) ≡ true) × (may_be_put 0 start finish (grid 20 2) ≡ false)
    × (may_be_put 1 start finish (grid 20 2) ≡ true) × (may_be_put 0 start finish (grid 0 0) ≡ false)
    × (may_be_put 0 start finish (grid 40 0) ≡ false) × (may_be_put 0 start finish (grid 41 0) ≡ true)
    × (may_be_put 0 start finish (grid 42 0) ≡ false) × (may_be_put 0 bent finish (grid 30 2) ≡ false)
known_room = (refl, refl, refl, refl, refl, refl, refl, refl)

abbrev corner : List LineValue
corner = lines_through 0 ((at 0 0 ∷ at 40 0 ∷ at 40 30 ∷ []) ∷ (at 5 5 ∷ at 9 7 ∷ []) ∷ [])

-- into a segment that there is
pub known_puts : (put_of 0 (tracked_lines corner) 0 1 (grid 40 10)
    ≡ Some (record { line = 0; segment = 1; place = place_number_of (grid 40 0) (grid 40 10) }))
    × (put_of 0 (tracked_lines corner) 0 2 (grid 40 30) ≡ None) × (put_of 0 (tracked_lines corner) 2 0 (grid 6 6) ≡ None)
    × (put_of 0 (tracked_lines corner) 1 0 (grid 40 10) ≡ None)
known_puts = (refl, refl, refl, refl)

abbrev put : (line segment : ℕ) → (a p : GridPoint) → Put
put line segment a p = record { line = line; segment = segment; place = place_number_of a p }

abbrev filled_by : List Put → List TrackedLine → List TrackedLine
filled_by puts lines = filled_lines (places_put puts) 0 lines

-- the order is that along each segment, whatever the order of the puts; a point comes once; the other line stays
pub known_filled : lines_as_worked (filled_by (put 0 0 (grid 0 0) (grid 30 0) ∷ put 0 1 (grid 40 0) (grid 40 5)
    ∷ put 0 0 (grid 0 0) (grid 10 0) ∷ put 0 0 (grid 0 0) (grid 30 0) ∷ []) (tracked_lines corner))
    ≡ lines_through 0 ((at 0 0 ∷ at 10 0 ∷ at 30 0 ∷ at 40 0 ∷ at 40 5 ∷ at 40 30 ∷ []) ∷ (at 5 5 ∷ at 9 7 ∷ []) ∷ [])
known_filled = refl

-- along a segment to the left the order is the other one, and what is put keeps the segment as drawn
pub known_backwards : filled_points (places_put (put 3 0 (grid 40 0) (grid 10 0) ∷ put 3 0 (grid 40 0) (grid 30 1) ∷ [])) 3
    (tracked_points (at 40 0 ∷ at 0 0 ∷ []))
    ≡ tracked_point (at 40 0) (at 0 0) ∷ record { at = at 30 1; from = at 40 0; to = at 0 0; drawn = None }
    ∷ record { at = at 10 0; from = at 40 0; to = at 0 0; drawn = None } ∷ tracked_point (at 0 0) (at 0 0) ∷ []
known_backwards = refl
