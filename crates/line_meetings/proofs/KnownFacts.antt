-- Worked keys of points and points joined near by, and what is stated of points that are kept.
use Rattle.std.proofs.Common.{◌≡◌, ℕ, pos, true, false, List, [], ◌∷◌, Option, Some, refl}
use Rattle.design_model.specs.declared.point.Point.{Point}
use Rattle.drawing_review.specs.Frames.{grid_point}
use Rattle.drawing_review.specs.declared.grid_point.GridPoint.{GridPoint}
use Rattle.drawing_review.specs.declared.joined_points.Place.{Place}
use Rattle.line_meetings.specs.declared.known_points.PointKey.{PointKey}
use Rattle.drawing_review.specs.JoinedPoints.{is_among}
use Rattle.line_meetings.specs.Joints.{are_joined_around}
use Rattle.line_meetings.specs.KnownPoints.{AreKnown, StaysKnown, is_same_point_key, point_key_of}
use Rattle.line_meetings.specs.Parts.{segment_part}
use Rattle.line_meetings.proofs.Names.{LineSegment}

abbrev at : ℕ → ℕ → Point
at x y = record { x = pos x; y = pos y }

abbrev from_to : Point → Point → LineSegment
from_to p q = segment_part (record { block = 2; line = 0; number = 0; is_first = false; is_last = false }) p q

-- a point in a row
abbrev along : ℕ → GridPoint
along x = grid_point (at x 0)

abbrev key : (block x y : ℕ) → PointKey
key block x y = record { block = block; x = x; y = y }

-- coordinates count from -30,000
pub known_key : point_key_of (from_to (at 4 7) (at 4 7)) ≡ key 2 30004 30007
known_key = refl

pub known_same : (is_same_point_key (key 2 4 7) (key 2 4 7) ≡ true) × (is_same_point_key (key 2 4 7) (key 1 4 7) ≡ false)
    × (is_same_point_key (key 2 4 7) (key 2 5 7) ≡ false) × (is_same_point_key (key 2 4 7) (key 2 4 6) ≡ false)
known_same = (refl, refl, refl, refl)

-- of three segments in a row, those whose ends are within 4 of the point 0 join it to 4
abbrev row : List LineSegment
row = from_to (at 0 0) (at 2 0) ∷ from_to (at 2 0) (at 4 0) ∷ from_to (at 4 0) (at 5 0) ∷ []

pub known_around : (are_joined_around 4 row (from_to (at 0 0) (at 0 0)) (from_to (at 4 0) (at 4 0)) ≡ true)
    × (are_joined_around 4 row (from_to (at 0 0) (at 0 0)) (from_to (at 5 0) (at 5 0)) ≡ false)
known_around = (refl, refl)

pub known_points : (known : PointKey → Option (List Place)) (places : List Place) → AreKnown 4 row known
    → known (key 2 30000 30000) ≡ Some places → (is_among places (along 4) ≡ true) × (is_among places (along 5) ≡ false)
known_points known places are there =
    let are_joined = are (from_to (at 0 0) (at 0 0)) places there in
    (are_joined (from_to (at 4 0) (at 4 0)), are_joined (from_to (at 5 0) (at 5 0)))

-- points that are kept later are those joined to theirs, where the earlier ones are
pub known_stays : (gap : ℕ) (segments : List LineSegment) (old new : PointKey → Option (List Place)) → StaysKnown gap segments old new
    → AreKnown gap segments old → AreKnown gap segments new
known_stays gap segments old new stays are = stays are
