use Rattle.std.proofs.Common.{◌≡◌, ◌++◌, drop}
use Rattle.std.specs.HashMap.{get}
use Rattle.line_sections.specs.Spots.{is_same_spot}
use Rattle.line_sections.specs.declared.spot.Spot.{Spot}
use Rattle.meeting_rounds.specs.MovedPoints.{tracked_at}
use Rattle.meeting_rounds.specs.PlacedPoints.{points_at_spot}
use Rattle.meeting_rounds.proofs.placed_points.placed_points.Given as goal

-- the points so far, with those of the lines that are left
abbrev pub invariant-loop-line : goal.invariant-loop-line
invariant-loop-line l = (s : Spot) → points_at_spot (get is_same_spot l.placed) s ++ tracked_at (drop l.line-index l.lines) s
    ≡ tracked_at l.lines s
