use Rattle.std.proofs.Common.{◌≡◌, take, map}
use Rattle.drawing_edits.proofs.Names.{motion_map, with_moved_spot}
use Rattle.drawing_edits.proofs.moved_lines.moved_spots.Given as goal

-- the spots so far are moved
abbrev pub invariant-loop-spot : goal.invariant-loop-spot
invariant-loop-spot l = l.moved ≡ map (with_moved_spot (motion_map l.motion)) (take l.spot-index l.spots)
