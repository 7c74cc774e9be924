-- Outlines of parts: what is known of all of them, so that a question passes over those that it
-- isn't about.
use Rattle.std.specs.Prelude.{◌≡◌, Bool, false, List, [], ◌∷◌}
use Rattle.drawing_review.specs.declared.segment.LineSegment.{LineSegment}
use Rattle.drawing_review.specs.declared.strip.Strip.{Strip}
use Rattle.drawing_review.specs.Strips.{is_beside_strip, is_right_of}
use Rattle.line_meetings.specs.declared.bounds.Bounds.{Bounds}
use Rattle.line_meetings.specs.declared.indexed_part.IndexedPart.{IndexedPart}
use Rattle.line_meetings.specs.declared.outline.Outline.{Outline}
use Rattle.line_meetings.specs.declared.query.Query.{Query}
use Rattle.line_meetings.specs.declared.query.Query.TheVariants as query
use Rattle.line_meetings.specs.Bounds.{AreAllWithin}
use Rattle.line_meetings.specs.Cores.{HaveCore, is_core_out}

-- Both ends of a segment lie in a strip.
pub record LiesInStrip (strip : Strip) (t : LineSegment) : Type 0 where
  pub right_a : is_right_of strip.along t.a strip.right ≡ false
  pub right_b : is_right_of strip.along t.b strip.right ≡ false
  pub left_a : is_right_of strip.along strip.left t.a ≡ false
  pub left_b : is_right_of strip.along strip.left t.b ≡ false

-- All given parts lie in a strip.
abbrev pub LieInStrip : Strip → List IndexedPart → Type 0
LieInStrip strip [] = Unit {0}
LieInStrip strip (p ∷ rest) = LiesInStrip strip p.part × LieInStrip strip rest

-- Parts have an outline: they lie within its bounds and in its strip, and each has its core inside.
pub record HaveOutline (outline : Outline) (parts : List IndexedPart) : Type 0 where
  pub within : AreAllWithin outline.bounds parts
  pub core : HaveCore outline.core parts
  pub strip : LieInStrip outline.strip parts

-- A question with these bounds is about no part that has an outline, though their bounds aren't
-- apart: it is about segments inside its bounds, and the core reaches out of them; or it is about
-- segments that touch one, which lies beside the strip.
abbrev pub is_left_out : Query → Bounds → Outline → Bool
is_left_out (query.Close gap point) bounds outline = false
is_left_out (query.Around gap point) bounds outline = is_core_out outline.core bounds
is_left_out (query.Beside gap point) bounds outline = false
is_left_out (query.Touching s) bounds outline = is_beside_strip outline.strip s
