-- Points joined to others that are kept, so that they aren't found again.
use Rattle.std.specs.Prelude.{◌≡◌, ℕ, ◌==◌, Bool, ◌&&◌, List, Option, Some}
use Rattle.drawing_review.specs.declared.segment.LineSegment.{LineSegment}
use Rattle.drawing_review.specs.declared.joined_points.Place.{Place}
use Rattle.line_meetings.specs.declared.known_points.PointKey.{PointKey}
use Rattle.line_meetings.specs.Joints.{AreJoinedPoints}

-- The block and the coordinates of a point.
abbrev pub point_key_of : LineSegment → PointKey
point_key_of p = record { block = p.block; x = p.a.x; y = p.a.y }

-- Two points of blocks are the same.
abbrev pub is_same_point_key : PointKey → PointKey → Bool
is_same_point_key k l = k.block == l.block && (k.x == l.x && k.y == l.y)

-- Points that are kept for a point are those joined to it.
abbrev pub AreKnown : ℕ → List LineSegment → (PointKey → Option (List Place)) → Type 0
AreKnown gap segments known = (p : LineSegment) (places : List Place)
    → known (point_key_of p) ≡ Some places → AreJoinedPoints gap segments p places

-- Points are still those joined to the ones for which they are kept.
abbrev pub StaysKnown : ℕ → List LineSegment → (old new : PointKey → Option (List Place)) → Type 0
StaysKnown gap segments old new = AreKnown gap segments old → AreKnown gap segments new
