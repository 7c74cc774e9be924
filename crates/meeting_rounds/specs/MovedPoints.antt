-- Points of lines that are worked on, after some moved to others. Points that then follow each
-- other at one place become one, which stands for both. Lengths are whole tenths of a millimetre.
use Rattle.std.specs.Prelude.{ℕ, ◌+◌, ◌*◌, Bool, List, [], ◌∷◌, ◌++◌, map, Option, Some, None, unwrap_or, if◌then◌else◌}
use Rattle.std.specs.List.{flat_map}
use Rattle.design_model.specs.declared.point.Point.{Point}
use Rattle.design_model.specs.Points.{is_same_point}
use Rattle.drawing_review.specs.Frames.{grid_point}
use Rattle.drawing_review.specs.Meetings.{is_near}
use Rattle.line_sections.specs.declared.spot.Spot.{Spot}
use Rattle.line_sections.specs.ListedPoints.{spot_at}
use Rattle.line_sections.specs.Spots.{is_same_spot}
use Rattle.meeting_rounds.specs.declared.point_bounds.PointBounds.{PointBounds}
use Rattle.meeting_rounds.specs.declared.spot_moves.SpotMove.{SpotMove}
use Rattle.meeting_rounds.specs.declared.tracked_lines.TrackedLine.{TrackedLine}
use Rattle.meeting_rounds.specs.declared.tracked_lines.TrackedPoint.{TrackedPoint}
use Rattle.meeting_rounds.specs.PointBounds.{reaches_bounds, united_drawn}
use Rattle.meeting_rounds.specs.Puts.{segment_as_drawn}

-- Where the points of a spot move after the given moves, or what was found before them. The last
-- move decides.
abbrev pub target_after : Option Point → List SpotMove → Spot → Option Point
target_after found [] s = found
target_after found (move ∷ rest) s =
    target_after (if is_same_spot move.from s then Some move.to else found) rest s

-- Where the points of a spot move, if they do.
abbrev pub target_in : List SpotMove → Spot → Option Point
target_in moves s = target_after None moves s

-- The points of a block's line at a spot.
abbrev pub placed_in : ℕ → Spot → List TrackedPoint → List TrackedPoint
placed_in block s [] = []
placed_in block s (p ∷ rest) =
    (if is_same_spot (spot_at block p.at) s then p ∷ [] else []) ++ placed_in block s rest

-- The points of lines at a spot.
abbrev pub tracked_at : List TrackedLine → Spot → List TrackedPoint
tracked_at lines s = flat_map (λ line. placed_in line.block s line.points) lines

-- What a point stands for lets it move to a place: all its points as drawn are within twice the gap
-- and 1; or, where it was only put into a segment, that segment as drawn is within the gap and 1.
abbrev pub lets_move : ℕ → Point → TrackedPoint → Option PointBounds → Bool
lets_move gap to p None = is_near (gap + 1) (grid_point to) (segment_as_drawn p)
lets_move gap to p (Some bounds) = reaches_bounds (2 * gap + 1) bounds (grid_point to)

-- A point may move to a place.
abbrev pub may_move : ℕ → Point → TrackedPoint → Bool
may_move gap to p = lets_move gap to p p.drawn

-- A point of a block after the moves.
abbrev pub moved_to : List SpotMove → ℕ → Point → Point
moved_to moves block p = unwrap_or (target_in moves (spot_at block p)) p

-- A point after a move, if there is one and it may move there.
abbrev pub point_at : ℕ → Option Point → TrackedPoint → TrackedPoint
point_at gap None p = p
point_at gap (Some to) p = if may_move gap to p then record p { at = to } else p

-- A point of a block's line after the moves.
abbrev pub point_moved : ℕ → List SpotMove → ℕ → TrackedPoint → TrackedPoint
point_moved gap moves block p = point_at gap (target_in moves (spot_at block p.at)) p

-- A start or an end after the moves.
abbrev pub spot_moved : List SpotMove → Spot → Spot
spot_moved moves s = record { block = s.block; at = moved_to moves s.block s.at }

-- Two points at one place that follow each other, as one.
abbrev pub merged : TrackedPoint → TrackedPoint → TrackedPoint
merged p q = record q { drawn = united_drawn p.drawn q.drawn }

-- The points p and those after it, where points at one place that follow each other are one.
abbrev pub merged_from : TrackedPoint → List TrackedPoint → List TrackedPoint
merged_from p [] = p ∷ []
merged_from p (q ∷ rest) =
    if is_same_point p.at q.at then merged_from (merged p q) rest else p ∷ merged_from q rest

-- Points, where those at one place that follow each other are one.
abbrev pub merged_points : List TrackedPoint → List TrackedPoint
merged_points [] = []
merged_points (p ∷ rest) = merged_from p rest

-- The points of a block's line after the moves, before any become one.
abbrev pub points_moved : ℕ → List SpotMove → ℕ → List TrackedPoint → List TrackedPoint
points_moved gap moves block points = map (point_moved gap moves block) points

-- A line after the moves.
abbrev pub line_moved : ℕ → List SpotMove → TrackedLine → TrackedLine
line_moved gap moves line =
    record line { points = merged_points (points_moved gap moves line.block line.points) }

-- Lines after the moves.
abbrev pub lines_moved : ℕ → List SpotMove → List TrackedLine → List TrackedLine
lines_moved gap moves lines = map (line_moved gap moves) lines

-- Starts or ends after the moves.
abbrev pub spots_moved : List SpotMove → List Spot → List Spot
spots_moved moves spots = map (spot_moved moves) spots
