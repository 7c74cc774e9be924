use Rattle.std.proofs.Common.{◌≡◌, take, map}
use Rattle.drawing_edits.proofs.Names.{motion_map}
use Rattle.drawing_edits.proofs.moved_lines.moved_points.Given as goal

-- the points so far are moved
abbrev pub invariant-loop-point : goal.invariant-loop-point
invariant-loop-point l = l.moved ≡ map (motion_map l.motion) (take l.point-index l.points)
