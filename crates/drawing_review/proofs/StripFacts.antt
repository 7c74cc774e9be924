-- Worked strips.
use Rattle.std.proofs.Common.{◌≡◌, ℕ, pos, true, false, [], ◌∷◌, map, refl}
use Rattle.drawing_review.specs.Segments.{drawn_segment}
use Rattle.drawing_review.specs.Strips.{is_beside_strip, is_right_of, least_strip, left_sum, right_sum, strip_along, strip_with}
use Rattle.drawing_review.specs.declared.grid_point.GridPoint.{GridPoint}
use Rattle.drawing_review.specs.declared.segment.LineSegment.{LineSegment}
use Rattle.drawing_review.specs.declared.strip.Direction.{Direction}
use Rattle.drawing_review.specs.declared.strip.Strip.{Strip}

abbrev point : ℕ → ℕ → GridPoint
point x y = record { x = x; y = y }

-- from 10 20 along 4 to the right and 3 down
abbrev d : Direction
d = record { from = point 10 20; to = point 14 23 }

pub known_sums : (right_sum d (point 5 7) ≡ 198) × (left_sum d (point 5 7) ≡ 185)
known_sums = (refl, refl)

-- y grows downwards: what is below lies to the right, and points on one line along the direction aren't right of each other
pub known_right : (is_right_of d (point 10 21) (point 10 20) ≡ true) × (is_right_of d (point 10 20) (point 10 21) ≡ false)
    × (is_right_of d (point 14 23) (point 10 20) ≡ false) × (is_right_of d (point 10 20) (point 14 23) ≡ false)
known_right = (refl, refl, refl, refl)

abbrev strip : Strip
strip = record { along = d; right = point 10 22; left = point 10 19 }

-- a point to the right, one to the left, and one between
pub known_with : (strip_with strip (point 10 23) ≡ record { along = d; right = point 10 23; left = point 10 19 })
    × (strip_with strip (point 10 18) ≡ record { along = d; right = point 10 22; left = point 10 18 })
    × (strip_with strip (point 14 23) ≡ strip)
known_with = (refl, refl, refl)

abbrev from_to : GridPoint → GridPoint → LineSegment
from_to p q = record (drawn_segment (record { block = 2; line = 0; number = 0; is_first = false; is_last = false })
    (record { x = pos 0; y = pos 0 }) (record { x = pos 0; y = pos 0 })) { a = p; b = q }

pub known_least : least_strip
    ≡ record { along = record { from = point 0 0; to = point 0 0 }; right = point 0 0; left = point 0 0 }
known_least = refl

-- from its end a to its end b
pub known_along : strip_along (from_to (point 10 20) (point 14 23)) ≡ record { along = d; right = point 10 20; left = point 10 20 }
known_along = refl

-- both ends to the right, both to the left, one on each side, one on the rim
pub known_beside : map (is_beside_strip strip) (from_to (point 10 23) (point 10 24) ∷ from_to (point 10 18) (point 10 17)
    ∷ from_to (point 10 23) (point 10 18) ∷ from_to (point 10 22) (point 10 23) ∷ from_to (point 10 23) (point 10 22)
    ∷ from_to (point 10 19) (point 10 18) ∷ from_to (point 10 18) (point 10 19) ∷ [])
    ≡ true ∷ true ∷ false ∷ false ∷ false ∷ false ∷ false ∷ []
known_beside = refl
