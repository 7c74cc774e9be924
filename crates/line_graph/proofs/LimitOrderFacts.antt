-- The order in which the limits of a drawing are judged, for a line that is added and for sections.
use Rattle.std.proofs.Common.{◌≡◌, ℕ, true, false, List, [], ◌∷◌, Err, length, nat_lt, refl}
use Rattle.line_graph.proofs.DrawingNames.{Point, all_sections, DrawingValue, line_added, point_count, steps_with_line, joined_drawing}
use Rattle.line_graph.specs.declared.draw_kind.DrawKind.TheVariants as kind
use Rattle.line_graph.proofs.NeedleFacts.{at}

abbrev stroke : List Point
stroke = at 0 0 ∷ at 10 0 ∷ []

-- a drawing of 1,024 lines takes no further one, whatever its points and its cost
pub known_lines_first : (d : DrawingValue) → length d.lines ≡ 1024 → steps_with_line d stroke ≡ Err kind.TooManyLines
known_lines_first d full = rw full refl

-- a line that isn't one is refused for that, also where there are too many
pub known_short_first : (d : DrawingValue) → steps_with_line d (at 0 0 ∷ []) ≡ Err kind.FewPoints
known_short_first d = refl

pub known_repeat_first : (d : DrawingValue) → steps_with_line d (at 0 0 ∷ at 0 0 ∷ []) ≡ Err kind.RepeatedPoint
known_repeat_first d = refl

-- too many sections are reported before too many points of theirs
pub known_sections_first : (d : DrawingValue) → nat_lt 1024 (length (all_sections d.lines)) ≡ true
    → joined_drawing d ≡ Err kind.TooManyLines
known_sections_first d many = rw many refl

pub known_points_next : (d : DrawingValue) → nat_lt 1024 (length (all_sections d.lines)) ≡ false
    → nat_lt 65536 (point_count (all_sections d.lines)) ≡ true
    → joined_drawing d ≡ Err kind.TooManyPoints
known_points_next d few many = rw (few, many) refl

-- a block is missing before anything else is wrong, and a point out of reach is wrong before the line is short
pub known_no_block : (d : DrawingValue) → d.threads ≡ [] → line_added d (at 30001 0 ∷ []) ≡ Err kind.NoBlock
known_no_block d none = rw none refl

pub known_reach_first : (d : DrawingValue) (thread : ℕ) → d.threads ≡ thread ∷ []
    → line_added d (at 30001 0 ∷ []) ≡ Err kind.OutOfRange
known_reach_first d thread is = rw is refl
