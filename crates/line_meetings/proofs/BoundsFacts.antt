-- Worked bounds, and what the records on bounds, told meetings and copies state.
use Rattle.std.proofs.Common.{◌≡◌, ℕ, pos, true, false, List, [], ◌∷◌, ◌++◌, Option, Some, None, map, refl, arith}
use Rattle.design_model.specs.declared.point.Point.{Point}
use Rattle.drawing_review.specs.Frames.{grid_point}
use Rattle.line_meetings.specs.declared.meeting.Meeting.{Meeting}
use Rattle.line_meetings.specs.declared.part_key.PartKey.{PartKey}
use Rattle.line_meetings.specs.declared.span.Span.{Span}
use Rattle.line_meetings.specs.Bounds.{IsWithinSpan, are_bounds_apart, bounds_around, united_span}
use Rattle.line_meetings.specs.Parts.{key_of, segment_part}
use Rattle.line_meetings.specs.Sorting.{HasFirsts}
use Rattle.line_meetings.specs.Telling.{TellsUpTo, told}
use Rattle.line_meetings.proofs.Names.{AreAllWithin, AreWithin, Bounds, IndexedPart, LineSegment, bounds_of, united_bounds}

abbrev at : ℕ → ℕ → Point
at x y = record { x = pos x; y = pos y }

abbrev from_to : Point → Point → LineSegment
from_to p q = segment_part (record { block = 2; line = 0; number = 0; is_first = false; is_last = false }) p q

abbrev span : (least greatest : ℕ) → Span
span least greatest = record { least = least; greatest = greatest }

pub known_united_spans : (united_span (span 2 9) (span 4 12) ≡ span 2 12) × (united_span (span 4 12) (span 5 9) ≡ span 4 12)
known_united_spans = (refl, refl)

-- from 0 0 to 4 1, and from 2 5 to 3 3: coordinates count from -30,000, differences from what none is below
pub known_united : united_bounds (bounds_of (from_to (at 0 0) (at 4 1))) (bounds_of (from_to (at 2 5) (at 3 3))) ≡ record {
  x = span 30000 30004;
  y = span 30000 30005;
  sum = span 60000 60007;
  difference = span 65532 65538;
  flat_sum = span 90000 90012;
  steep_sum = span 90000 90009;
  flat_difference = span 101062 101072;
  steep_difference = span 95534 95542;
}
known_united = refl

-- the square of 2 around 5 7: twice as far in sums, and three times in flat and steep ones
pub known_around : bounds_around 2 (grid_point (at 5 7)) ≡ record {
  x = span 30003 30007;
  y = span 30005 30009;
  sum = span 60008 60016;
  difference = span 65529 65537;
  flat_sum = span 90013 90025;
  steep_sum = span 90011 90023;
  flat_difference = span 101055 101067;
  steep_difference = span 95532 95544;
}
known_around = refl

-- bounds of one span in all measures
abbrev evenly : Span → Bounds
evenly s = record {
  x = s;
  y = s;
  sum = s;
  difference = s;
  flat_sum = s;
  steep_sum = s;
  flat_difference = s;
  steep_difference = s;
}

-- one measure is enough to be apart
pub known_bounds_apart : map (are_bounds_apart (evenly (span 0 9)))
    (evenly (span 9 12) ∷ record (evenly (span 9 12)) { x = span 10 12 } ∷ record (evenly (span 9 12)) { y = span 10 12 }
    ∷ record (evenly (span 9 12)) { sum = span 10 12 } ∷ record (evenly (span 9 12)) { difference = span 10 12 }
    ∷ record (evenly (span 9 12)) { flat_sum = span 10 12 } ∷ record (evenly (span 9 12)) { steep_sum = span 10 12 }
    ∷ record (evenly (span 9 12)) { flat_difference = span 10 12 } ∷ record (evenly (span 9 12)) { steep_difference = span 10 12 } ∷ [])
    ≡ false ∷ true ∷ true ∷ true ∷ true ∷ true ∷ true ∷ true ∷ true ∷ []
known_bounds_apart = refl

-- a span within another is so at both ends
pub known_least : IsWithinSpan (span 3 9) (span 2 9) → ⊥
known_least is = omega (arith, is.least)

pub known_greatest : IsWithinSpan (span 3 9) (span 3 10) → ⊥
known_greatest is = omega (arith, is.greatest)

-- bounds within others are so in each measure
pub known_within : (outer inner : Bounds) → AreWithin outer inner → IsWithinSpan outer.x inner.x × IsWithinSpan outer.y inner.y
    × IsWithinSpan outer.sum inner.sum × IsWithinSpan outer.difference inner.difference
    × IsWithinSpan outer.flat_sum inner.flat_sum × IsWithinSpan outer.steep_sum inner.steep_sum
    × IsWithinSpan outer.flat_difference inner.flat_difference × IsWithinSpan outer.steep_difference inner.steep_difference
known_within outer inner are =
    (are.x, are.y, are.sum, are.difference, are.flat_sum, are.steep_sum, are.flat_difference, are.steep_difference)

-- the bounds of each part are within
pub known_all_within : (bounds : Bounds) (s t : IndexedPart) → AreAllWithin bounds (s ∷ t ∷ [])
    → AreWithin bounds (bounds_of s.part) × AreWithin bounds (bounds_of t.part)
known_all_within bounds s t are = (are.0, are.1.0)

-- more meetings come after the old ones, whatever is after them
pub known_telling : (new more old : List Meeting) → TellsUpTo more old new → (rest : List Meeting)
    → told (new ++ rest) ≡ told (old ++ (more ++ rest))
known_telling new more old tells = tells

-- the first part with a key is kept
pub known_firsts : (firsts : PartKey → Option LineSegment)
    → HasFirsts (from_to (at 0 0) (at 2 0) ∷ from_to (at 2 0) (at 4 0) ∷ []) firsts
    → (firsts (key_of (from_to (at 4 0) (at 2 0))) ≡ Some (from_to (at 2 0) (at 4 0)))
    × (firsts (key_of (from_to (at 0 0) (at 4 0))) ≡ None)
known_firsts firsts has = (has (key_of (from_to (at 4 0) (at 2 0))), has (key_of (from_to (at 0 0) (at 4 0))))
