-- How far a line may be from itself as drawn. Its points are, in order, points that stand for the
-- points as drawn, each for some that follow each other, and between these, points that are listed.
-- Lengths are whole tenths of a millimetre, and distances are on the larger axis.
use Rattle.std.specs.Prelude.{◌≡◌, ◌⊎◌, ℕ, ◌+◌, ◌*◌, Bool, true, false, ◌||◌, List, [], ◌∷◌, ◌++◌, Option, Some, None}
use Rattle.std.specs.List.{list_all, list_any}
use Rattle.design_model.specs.declared.point.Point.{Point}
use Rattle.drawing_review.specs.Frames.{grid_point}
use Rattle.drawing_review.specs.Meetings.{is_near}
use Rattle.line_meetings.specs.Touches.{are_close}
use Rattle.line_sections.specs.Lines.{LineValue}
use Rattle.meeting_rounds.specs.Puts.{drawn_between}

-- The last of points, or the given one.
abbrev pub last_of : Point → List Point → Point
last_of p [] = p
last_of p (q ∷ rest) = last_of q rest

-- Points are all within a distance of p.
abbrev pub are_within : ℕ → Point → List Point → Bool
are_within reach p points = list_all (λ q. are_close reach (grid_point p) (grid_point q)) points

-- A point is within a distance of the segment as drawn that leads on: from a point, if one has
-- come, to the first of those to come.
abbrev pub IsAlong : ℕ → (from : Option Point) → (coming : List Point) → Point → Type 0
IsAlong room None coming p = ⊥
IsAlong room (Some from) [] p = ⊥
IsAlong room (Some from) (q ∷ coming) p =
    is_near room (grid_point p) (drawn_between from q) ≡ true

-- What is left of a line, where some of its points as drawn have come, the last one as given, and
-- others are to come: each point is listed near the segment that leads on, or stands for the next
-- points to come, one or more, within a reach of it. In the end none is to come.
abbrev pub StaysNear : (reach room : ℕ) → (from : Option Point) → (coming after : List Point)
    → Type 0
StaysNear reach room from coming [] = coming ≡ []
StaysNear reach room from coming (p ∷ after) =
    (IsAlong room from coming p × StaysNear reach room from coming after)
    ⊎ ((q : Point) × (run rest : List Point) × (coming ≡ q ∷ (run ++ rest))
    × (are_within reach p (q ∷ run) ≡ true) × StaysNear reach room
    (Some (last_of q run)) rest after)

-- The points of a line after rounds, against those as drawn: what stands for points as drawn is
-- within twice the gap and 1 of each, and what is listed is within the gap and 1 of its segment.
abbrev pub StaysNearDrawn : (gap : ℕ) → (drawn after : List Point) → Type 0
StaysNearDrawn gap drawn after = StaysNear (2 * gap + 1) (gap + 1) None drawn after

-- Lines after rounds, against the same lines as drawn, in order and each in its block.
abbrev pub LinesStayNear : (gap : ℕ) → (drawn after : List LineValue) → Type 0
LinesStayNear gap [] after = after ≡ []
LinesStayNear gap (line ∷ drawn) [] = ⊥
LinesStayNear gap (line ∷ drawn) (a ∷ after) = (a.block ≡ line.block)
    × StaysNearDrawn gap line.points a.points × LinesStayNear gap drawn after

-- A point is within a distance of one of the segments through points.
abbrev pub is_near_segments : ℕ → List Point → Point → Bool
is_near_segments room [] p = false
is_near_segments room (a ∷ []) p = false
is_near_segments room (a ∷ b ∷ rest) p =
    is_near room (grid_point p) (drawn_between a b) || is_near_segments room (b ∷ rest) p

-- A point is near a line as drawn: within twice the gap and 1 of one of its points, or within the
-- gap and 1 of one of its segments.
abbrev pub is_near_drawn : (gap : ℕ) → (drawn : List Point) → Point → Bool
is_near_drawn gap drawn p =
    list_any (λ q. are_close (2 * gap + 1) (grid_point p) (grid_point q)) drawn
    || is_near_segments (gap + 1) drawn p
