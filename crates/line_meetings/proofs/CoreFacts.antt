-- Worked cores, and what the records on cores state.
use Rattle.std.proofs.Common.{◌≡◌, ℕ, pos, true, false, [], ◌∷◌, refl}
use Rattle.design_model.specs.declared.point.Point.{Point}
use Rattle.line_meetings.specs.declared.part_core.Core.{Core}
use Rattle.line_meetings.specs.declared.span.Span.{Span}
use Rattle.line_meetings.specs.Bounds.{IsWithinSpan, bounds_around}
use Rattle.line_meetings.specs.Cores.{HasCore, HaveCore, common_core, core_of, is_core_out, reaches_out}
use Rattle.line_meetings.specs.Parts.{segment_part}
use Rattle.line_meetings.proofs.Names.{IndexedPart, LineSegment}

abbrev at : ℕ → ℕ → Point
at x y = record { x = pos x; y = pos y }

abbrev from_to : Point → Point → LineSegment
from_to p q = segment_part (record { block = 2; line = 0; number = 0; is_first = false; is_last = false }) p q

abbrev span : (least greatest : ℕ) → Span
span least greatest = record { least = least; greatest = greatest }

-- coordinates count from -30,000; segments that are apart by x have a turned core
pub known_core : common_core (core_of (from_to (at 0 0) (at 4 9))) (core_of (from_to (at 7 5) (at 6 12)))
    ≡ record { x = span 30006 30004; y = span 30005 30009 }
known_core = refl

-- from 2 to 6: equal, before it, after it
pub known_out : (reaches_out (span 2 6) (span 2 6) ≡ false) × (reaches_out (span 1 6) (span 2 6) ≡ true)
    × (reaches_out (span 2 7) (span 2 6) ≡ true)
known_out = (refl, refl, refl)

-- the square of 2 around 5 7 has a segment inside, and another only by x, and one only by y
pub known_inside : (is_core_out (core_of (from_to (at 3 9) (at 7 5))) (bounds_around 2 (from_to (at 5 7) (at 5 7)).a) ≡ false)
    × (is_core_out (core_of (from_to (at 3 9) (at 7 4))) (bounds_around 2 (from_to (at 5 7) (at 5 7)).a) ≡ true)
    × (is_core_out (core_of (from_to (at 3 9) (at 8 5))) (bounds_around 2 (from_to (at 5 7) (at 5 7)).a) ≡ true)
known_inside = (refl, refl, refl)

-- each part has the core inside, by x and by y
pub known_have : (core : Core) (s t : IndexedPart) → HaveCore core (s ∷ t ∷ [])
    → IsWithinSpan (core_of s.part).x core.x × IsWithinSpan (core_of s.part).y core.y × HasCore (core_of t.part) core
known_have core s t have = (have.0.x, have.0.y, have.1.0)
