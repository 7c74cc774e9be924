-- Bounds of segments: between which numbers their points lie, by x and y and by six slanted
-- measures. Long segments side by side, which overlap in x and y, are apart in one along which
-- they lie. Coordinates count from the least one that a needle reaches, in tenths of a millimetre.
use Rattle.std.specs.Prelude.{ℕ, ◌+◌, ◌-◌, ◌*◌, ◌≤◌, min, max, Bool, ◌||◌, nat_lt, List, [], ◌∷◌}
use Rattle.drawing_review.specs.declared.grid_point.GridPoint.{GridPoint}
use Rattle.drawing_review.specs.declared.segment.LineSegment.{LineSegment}
use Rattle.line_meetings.specs.declared.bounds.Bounds.{Bounds}
use Rattle.line_meetings.specs.declared.indexed_part.IndexedPart.{IndexedPart}
use Rattle.line_meetings.specs.declared.span.Span.{Span}

-- The span from the lesser of two numbers to the greater.
abbrev pub span_between : ℕ → ℕ → Span
span_between m n = record { least = min m n; greatest = max m n }

-- The span of the numbers that are at most so far from one.
abbrev pub span_around : (n reach : ℕ) → Span
span_around n reach = record { least = n - reach; greatest = n + reach }

-- No number is in both spans.
abbrev pub are_spans_apart : Span → Span → Bool
are_spans_apart a b = nat_lt a.greatest b.least || nat_lt b.greatest a.least

-- The least span that has both.
abbrev pub united_span : Span → Span → Span
united_span a b =
    record { least = min a.least b.least; greatest = max a.greatest b.greatest }

-- A span lies within another.
pub record IsWithinSpan (outer inner : Span) : Type 0 where
  pub least : outer.least ≤ inner.least
  pub greatest : inner.greatest ≤ outer.greatest

-- The slanted measures of a point. Differences count from one that none is below.
abbrev pub sum_of : GridPoint → ℕ
sum_of p = p.x + p.y

abbrev pub difference_of : GridPoint → ℕ
difference_of p = 65535 + p.x - p.y

abbrev pub flat_sum_of : GridPoint → ℕ
flat_sum_of p = p.x + 2 * p.y

abbrev pub steep_sum_of : GridPoint → ℕ
steep_sum_of p = 2 * p.x + p.y

abbrev pub flat_difference_of : GridPoint → ℕ
flat_difference_of p = 131070 + p.x - 2 * p.y

abbrev pub steep_difference_of : GridPoint → ℕ
steep_difference_of p = 65535 + 2 * p.x - p.y

-- The bounds of a segment.
abbrev pub bounds_of : LineSegment → Bounds
bounds_of s = record {
  x = span_between s.a.x s.b.x;
  y = span_between s.a.y s.b.y;
  sum = span_between (sum_of s.a) (sum_of s.b);
  difference = span_between (difference_of s.a) (difference_of s.b);
  flat_sum = span_between (flat_sum_of s.a) (flat_sum_of s.b);
  steep_sum = span_between (steep_sum_of s.a) (steep_sum_of s.b);
  flat_difference = span_between (flat_difference_of s.a) (flat_difference_of s.b);
  steep_difference = span_between (steep_difference_of s.a) (steep_difference_of s.b);
}

-- The bounds of the square around a point whose sides are the gap away from it.
abbrev pub bounds_around : ℕ → GridPoint → Bounds
bounds_around gap p = record {
  x = span_around p.x gap;
  y = span_around p.y gap;
  sum = span_around (sum_of p) (2 * gap);
  difference = span_around (difference_of p) (2 * gap);
  flat_sum = span_around (flat_sum_of p) (3 * gap);
  steep_sum = span_around (steep_sum_of p) (3 * gap);
  flat_difference = span_around (flat_difference_of p) (3 * gap);
  steep_difference = span_around (steep_difference_of p) (3 * gap);
}

-- Two bounds are apart in one measure: what lies in one doesn't lie in the other.
abbrev pub are_bounds_apart : Bounds → Bounds → Bool
are_bounds_apart a b = are_spans_apart a.x b.x || (are_spans_apart a.y b.y
    || (are_spans_apart a.sum b.sum || (are_spans_apart a.difference b.difference
    || (are_spans_apart a.flat_sum b.flat_sum || (are_spans_apart a.steep_sum b.steep_sum
    || (are_spans_apart a.flat_difference b.flat_difference
    || are_spans_apart a.steep_difference b.steep_difference))))))

-- The least bounds that have two bounds inside.
abbrev pub united_bounds : Bounds → Bounds → Bounds
united_bounds a b = record {
  x = united_span a.x b.x;
  y = united_span a.y b.y;
  sum = united_span a.sum b.sum;
  difference = united_span a.difference b.difference;
  flat_sum = united_span a.flat_sum b.flat_sum;
  steep_sum = united_span a.steep_sum b.steep_sum;
  flat_difference = united_span a.flat_difference b.flat_difference;
  steep_difference = united_span a.steep_difference b.steep_difference;
}

-- Bounds lie inside others.
pub record AreWithin (outer inner : Bounds) : Type 0 where
  pub x : IsWithinSpan outer.x inner.x
  pub y : IsWithinSpan outer.y inner.y
  pub sum : IsWithinSpan outer.sum inner.sum
  pub difference : IsWithinSpan outer.difference inner.difference
  pub flat_sum : IsWithinSpan outer.flat_sum inner.flat_sum
  pub steep_sum : IsWithinSpan outer.steep_sum inner.steep_sum
  pub flat_difference : IsWithinSpan outer.flat_difference inner.flat_difference
  pub steep_difference : IsWithinSpan outer.steep_difference inner.steep_difference

-- The bounds of all given parts lie inside bounds.
abbrev pub AreAllWithin : Bounds → List IndexedPart → Type 0
AreAllWithin bounds [] = Unit {0}
AreAllWithin bounds (p ∷ rest) = AreWithin bounds (bounds_of p.part) × AreAllWithin bounds rest
