-- Worked outlines, and what the records on outlines and strips state.
use Rattle.std.proofs.Common.{◌≡◌, ℕ, pos, true, false, List, [], ◌∷◌, refl}
use Rattle.drawing_review.specs.declared.grid_point.GridPoint.{GridPoint}
use Rattle.line_meetings.specs.declared.bounds.Bounds.{Bounds}
use Rattle.line_meetings.specs.declared.outline.Outline.{Outline}
use Rattle.line_meetings.specs.declared.query.Query.TheVariants as query
use Rattle.line_meetings.specs.declared.span.Span.{Span}
use Rattle.drawing_review.specs.declared.strip.Direction.{Direction}
use Rattle.drawing_review.specs.declared.strip.Strip.{Strip}
use Rattle.line_meetings.specs.Bounds.{bounds_around}
use Rattle.line_meetings.specs.Cores.{HaveCore}
use Rattle.line_meetings.specs.Parts.{segment_part}
use Rattle.drawing_review.specs.Strips.{is_right_of}
use Rattle.line_meetings.specs.Outlines.{HaveOutline, LieInStrip, LiesInStrip, is_left_out}
use Rattle.line_meetings.proofs.Names.{AreAllWithin, IndexedPart, LineSegment, bounds_of}

abbrev point : ℕ → ℕ → GridPoint
point x y = record { x = x; y = y }

-- from 10 20 along 4 to the right and 3 down
abbrev d : Direction
d = record { from = point 10 20; to = point 14 23 }

abbrev strip : Strip
strip = record { along = d; right = point 10 22; left = point 10 19 }

abbrev from_to : GridPoint → GridPoint → LineSegment
from_to p q = record (segment_part (record { block = 2; line = 0; number = 0; is_first = false; is_last = false })
    (record { x = pos 0; y = pos 0 }) (record { x = pos 0; y = pos 0 })) { a = p; b = q }

-- each end lies between the sides
pub known_lies : (t : LineSegment) → LiesInStrip strip t → (is_right_of d t.a (point 10 22) ≡ false)
    × (is_right_of d t.b (point 10 22) ≡ false)
    × (is_right_of d (point 10 19) t.a ≡ false) × (is_right_of d (point 10 19) t.b ≡ false)
known_lies t lies = (lies.right_a, lies.right_b, lies.left_a, lies.left_b)

pub known_lie : (f : Strip) (s t : IndexedPart) → LieInStrip f (s ∷ t ∷ []) → LiesInStrip f s.part × LiesInStrip f t.part
known_lie f s t lie = (lie.0, lie.1.0)

pub known_outline : (o : Outline) (parts : List IndexedPart) → HaveOutline o parts
    → AreAllWithin o.bounds parts × HaveCore o.core parts × LieInStrip o.strip parts
known_outline o parts have = (have.within, have.core, have.strip)

abbrev span : (least greatest : ℕ) → Span
span least greatest = record { least = least; greatest = greatest }

-- an outline whose core and strip leave out what its bounds don't
abbrev outline : Outline
outline = record { bounds = bounds_around 9 (point 10 20); core = record { x = span 0 9; y = span 20 20 }; strip = strip }

abbrev near : LineSegment
near = from_to (point 10 20) (point 10 20)

abbrev beside : LineSegment
beside = from_to (point 10 23) (point 10 24)

-- the core counts for `Around` alone, and the strip for `Touching` alone
pub known_left_out : (is_left_out (query.Around 3 near) (bounds_around 3 near.a) outline ≡ true)
    × (is_left_out (query.Around 12 near) (bounds_around 12 near.a) outline ≡ false)
    × (is_left_out (query.Close 3 near) (bounds_around 3 near.a) outline ≡ false)
    × (is_left_out (query.Beside 3 near) (bounds_around 3 near.a) outline ≡ false)
    × (is_left_out (query.Touching beside) (bounds_of beside) outline ≡ true)
    × (is_left_out (query.Touching near) (bounds_of near) outline ≡ false)
known_left_out = (refl, refl, refl, refl, refl, refl)
