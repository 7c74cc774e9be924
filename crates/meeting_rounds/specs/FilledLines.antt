-- Lines with points put into their segments. All segments are those before anything is put, and the
-- points put into one come in the order along it, each once. Indexes count from 0.
use Rattle.std.specs.Prelude.{ℕ, ◌+◌, ◌==◌, Bool, ◌&&◌, List, [], ◌∷◌, ◌++◌, map, None, if◌then◌else◌}
use Rattle.std.specs.BTreeSet.{insert_key}
use Rattle.std.specs.Ordering.{nat_cmp}
use Rattle.meeting_rounds.specs.declared.puts.Put.{Put}
use Rattle.meeting_rounds.specs.declared.segment_places.SegmentKey.{SegmentKey}
use Rattle.meeting_rounds.specs.declared.tracked_lines.TrackedLine.{TrackedLine}
use Rattle.meeting_rounds.specs.declared.tracked_lines.TrackedPoint.{TrackedPoint}
use Rattle.meeting_rounds.specs.PlaceNumbers.{point_of_place}

-- Two keys are of one segment.
abbrev pub is_same_segment : SegmentKey → SegmentKey → Bool
is_same_segment s t = s.line == t.line && s.segment == t.segment

-- The segment into which a point is put.
abbrev pub segment_of_put : Put → SegmentKey
segment_of_put put = record { line = put.line; segment = put.segment }

-- The given numbers, which rise, with those of further puts into a segment, each at its place in
-- the order unless it is there.
abbrev pub places_with : SegmentKey → List ℕ → List Put → List ℕ
places_with s places [] = places
places_with s places (put ∷ rest) = places_with s
    (if is_same_segment (segment_of_put put) s then insert_key nat_cmp places put.place
    else places) rest

-- The numbers of the points put into a segment, in the order along it.
abbrev pub places_put : List Put → SegmentKey → List ℕ
places_put puts s = places_with s [] puts

-- The points that take their places after p, each with the segment as drawn that p has. They stand
-- for no point as drawn.
abbrev pub points_put : TrackedPoint → List ℕ → List TrackedPoint
points_put p places = map (λ n. record p { at = point_of_place n; drawn = None }) places

-- The points of a line from p on, with those put between them, where the next segment is the given
-- one and each segment has the given numbers.
abbrev pub filled_from : (SegmentKey → List ℕ) → (line segment : ℕ) → TrackedPoint
    → List TrackedPoint → List TrackedPoint
filled_from places line segment p [] = p ∷ []
filled_from places line segment p (q ∷ rest) =
    p ∷ (points_put p (places (record { line = line; segment = segment }))
    ++ filled_from places line (segment + 1) q rest)

-- The points of a line with those put between them.
abbrev pub filled_points : (SegmentKey → List ℕ) → ℕ → List TrackedPoint → List TrackedPoint
filled_points places line [] = []
filled_points places line (p ∷ rest) = filled_from places line 0 p rest

-- Lines with the points put into them, where the first one has the given index.
abbrev pub filled_lines : (SegmentKey → List ℕ) → ℕ → List TrackedLine → List TrackedLine
filled_lines places index [] = []
filled_lines places index (line ∷ rest) =
    record line { points = filled_points places index line.points }
    ∷ filled_lines places (index + 1) rest
