-- Points that joints join. Joints are contracted one after another: the second end of each becomes
-- its first end, for all that are left.
use Rattle.std.specs.Prelude.{Bool, List, [], ◌∷◌, if◌then◌else◌}
use Rattle.drawing_review.specs.declared.grid_point.GridPoint.{GridPoint}
use Rattle.drawing_review.specs.declared.segment.LineSegment.{LineSegment}
use Rattle.drawing_review.specs.Meetings.{is_same_grid_point}
use Rattle.drawing_review.specs.declared.joints.Joint.{Joint}

-- The two ends of a segment.
abbrev pub joint_of : LineSegment → Joint
joint_of t = record { a = t.a; b = t.b }

-- A point, where one point has become another.
abbrev pub point_after : (from to : GridPoint) → GridPoint → GridPoint
point_after from to p = if is_same_grid_point p from then to else p

-- Joints join two points, where all points have become others by `moved`.
abbrev pub are_joined_after : (GridPoint → GridPoint) → List Joint → (p q : GridPoint) → Bool
are_joined_after moved [] p q = is_same_grid_point (moved p) (moved q)
are_joined_after moved (t ∷ rest) p q =
    are_joined_after (λ z. point_after (moved t.b) (moved t.a) (moved z)) rest p q

-- Joints join two points.
abbrev pub are_joined_by : List Joint → (p q : GridPoint) → Bool
are_joined_by joints p q = are_joined_after (λ z. z) joints p q
