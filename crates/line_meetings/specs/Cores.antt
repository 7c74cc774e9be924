-- Cores of parts: what the bounds of each of several parts have inside, by x and y. Where a core
-- reaches out of a square, none of the parts lies inside the square.
use Rattle.std.specs.Prelude.{min, max, Bool, ◌||◌, nat_lt, List, [], ◌∷◌}
use Rattle.drawing_review.specs.declared.segment.LineSegment.{LineSegment}
use Rattle.line_meetings.specs.declared.bounds.Bounds.{Bounds}
use Rattle.line_meetings.specs.declared.part_core.Core.{Core}
use Rattle.line_meetings.specs.declared.indexed_part.IndexedPart.{IndexedPart}
use Rattle.line_meetings.specs.declared.span.Span.{Span}
use Rattle.line_meetings.specs.Bounds.{IsWithinSpan, span_between}

-- The greatest span inside two spans; where they are apart, the span between them, turned.
abbrev pub common_span : Span → Span → Span
common_span a b =
    record { least = max a.least b.least; greatest = min a.greatest b.greatest }

-- A span begins before another one, or ends after it.
abbrev pub reaches_out : (core outer : Span) → Bool
reaches_out core outer = nat_lt core.least outer.least || nat_lt outer.greatest core.greatest

-- The core of a segment, by itself.
abbrev pub core_of : LineSegment → Core
core_of s = record { x = span_between s.a.x s.b.x; y = span_between s.a.y s.b.y }

-- The core of two cores.
abbrev pub common_core : Core → Core → Core
common_core a b = record { x = common_span a.x b.x; y = common_span a.y b.y }

-- A core reaches out of bounds.
abbrev pub is_core_out : Core → Bounds → Bool
is_core_out core bounds = reaches_out core.x bounds.x || reaches_out core.y bounds.y

-- A core lies inside another.
pub record HasCore (outer core : Core) : Type 0 where
  pub x : IsWithinSpan outer.x core.x
  pub y : IsWithinSpan outer.y core.y

-- All given parts have a core inside.
abbrev pub HaveCore : Core → List IndexedPart → Type 0
HaveCore core [] = Unit {0}
HaveCore core (p ∷ rest) = HasCore (core_of p.part) core × HaveCore core rest
