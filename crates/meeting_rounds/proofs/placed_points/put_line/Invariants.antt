use Rattle.std.proofs.Common.{◌≡◌, ◌++◌, length}
use Rattle.std.specs.HashMap.{get}
use Rattle.line_sections.specs.Spots.{is_same_spot}
use Rattle.line_sections.specs.declared.spot.Spot.{Spot}
use Rattle.meeting_rounds.specs.MovedPoints.{placed_in}
use Rattle.meeting_rounds.specs.PlacedPoints.{points_at_spot}
use Rattle.meeting_rounds.proofs.placed_points.put_line.Given as goal

-- the points so far, with those that are left
abbrev pub invariant-loop-rest : goal.invariant-loop-rest
invariant-loop-rest l = (s : Spot) → points_at_spot (get is_same_spot l.placed) s ++ placed_in l.line.block s l.rest
    ≡ points_at_spot (get is_same_spot l.fn.placed) s ++ placed_in l.line.block s l.line.points

abbrev pub decreases-loop-rest : goal.decreases-loop-rest
decreases-loop-rest l = length l.rest
