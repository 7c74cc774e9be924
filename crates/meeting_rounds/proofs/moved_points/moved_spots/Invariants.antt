use Rattle.std.proofs.Common.{◌≡◌, ◌++◌, drop}
use Rattle.meeting_rounds.specs.MovedPoints.{spots_moved}
use Rattle.meeting_rounds.proofs.moved_points.moved_spots.Given as goal

-- the spots so far, and those that are left
abbrev pub invariant-loop-spot : goal.invariant-loop-spot
invariant-loop-spot l = l.moved ++ spots_moved l.moves (drop l.spot-index l.spots)
    ≡ spots_moved l.moves l.spots
