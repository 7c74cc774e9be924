-- Points to be put into segments. A point is put only where it isn't an end of the segment and lies
-- near the segment as drawn, so that no line drifts away from itself as drawn. Indexes count from
-- 0, and lengths are whole tenths of a millimetre.
use Rattle.std.specs.Prelude.{ℕ, ◌+◌, Bool, false, not, ◌&&◌, List, [], ◌∷◌, drop, Option, Some, None, if◌then◌else◌}
use Rattle.design_model.specs.declared.point.Point.{Point}
use Rattle.drawing_review.specs.declared.grid_point.GridPoint.{GridPoint}
use Rattle.drawing_review.specs.declared.segment.LineSegment.{LineSegment}
use Rattle.drawing_review.specs.Frames.{grid_point}
use Rattle.drawing_review.specs.Meetings.{is_near, is_same_grid_point}
use Rattle.drawing_review.specs.Segments.{drawn_segment}
use Rattle.meeting_rounds.specs.declared.puts.Put.{Put}
use Rattle.meeting_rounds.specs.declared.tracked_lines.TrackedLine.{TrackedLine}
use Rattle.meeting_rounds.specs.declared.tracked_lines.TrackedPoint.{TrackedPoint}
use Rattle.meeting_rounds.specs.PlaceNumbers.{place_number_of}

-- The segment between two points.
abbrev pub drawn_between : (from to : Point) → LineSegment
drawn_between from to = drawn_segment
    (record { block = 0; line = 0; number = 0; is_first = false; is_last = false }) from to

-- The segment as drawn that leads on from a point.
abbrev pub segment_as_drawn : TrackedPoint → LineSegment
segment_as_drawn p = drawn_between p.from p.to

-- A point may be put between a and b: it is neither of them, and within one more than the gap of
-- the segment as drawn.
abbrev pub may_be_put : ℕ → (a b : TrackedPoint) → GridPoint → Bool
may_be_put gap a b p = is_near (gap + 1) p (segment_as_drawn a)
    && (not (is_same_grid_point p (grid_point a.at))
    && not (is_same_grid_point p (grid_point b.at)))

-- The put of a point between the first two of the given points, which a line has from a segment on,
-- if it may be put there.
abbrev pub put_between : ℕ → (line segment : ℕ) → GridPoint → List TrackedPoint → Option Put
put_between gap line segment p [] = None
put_between gap line segment p (a ∷ []) = None
put_between gap line segment p (a ∷ b ∷ rest) =
    if may_be_put gap a b p
    then Some (record {
      line = line;
      segment = segment;
      place = place_number_of
          (grid_point a.at) p;
    })
    else None

-- The put of a point into a segment of the first of the given lines, if it may be put there.
abbrev pub put_in_first : ℕ → (line segment : ℕ) → GridPoint → List TrackedLine → Option Put
put_in_first gap line segment p [] = None
put_in_first gap line segment p (first ∷ rest) =
    put_between gap line segment p (drop segment first.points)

-- The put of a point into a segment of a line, both by index, if it may be put there.
abbrev pub put_of : ℕ → List TrackedLine → (line segment : ℕ) → GridPoint → Option Put
put_of gap lines line segment p = put_in_first gap line segment p (drop line lines)
