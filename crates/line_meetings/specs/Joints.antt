-- Points that segments join near by.
use Rattle.std.specs.Prelude.{◌≡◌, ℕ, Bool, ◌||◌, List, filter, map}
use Rattle.drawing_review.specs.declared.joined_points.Place.{Place}
use Rattle.drawing_review.specs.declared.segment.LineSegment.{LineSegment}
use Rattle.drawing_review.specs.JoinedPoints.{is_among}
use Rattle.drawing_review.specs.Joints.{are_joined_by, joint_of}
use Rattle.line_meetings.specs.Queries.{is_around}

-- Segments whose ends are within the gap of the point p join it and the point q.
abbrev pub are_joined_around : ℕ → List LineSegment → (p q : LineSegment) → Bool
are_joined_around gap segments p q =
    are_joined_by (map joint_of (filter (is_around gap p) segments)) p.a q.a

-- Two points are joined near by, within the gap of one of them.
abbrev pub are_joined : ℕ → List LineSegment → (p q : LineSegment) → Bool
are_joined gap segments p q =
    are_joined_around gap segments p q || are_joined_around gap segments q p

-- Points are those that segments near the point p join to it.
abbrev pub AreJoinedPoints : ℕ → List LineSegment → LineSegment → List Place → Type 0
AreJoinedPoints gap segments p places = (q : LineSegment)
    → is_among places q.a ≡ are_joined_around gap segments p q
