-- Motions as values: shifts, turns and mirrorings, as maps over points.
use Rattle.std.specs.Prelude.{Bool, true, ◌&&◌, nat_le, unsigned_abs}
use Rattle.design_model.specs.declared.point.Point.{Point}
use Rattle.design_edits.specs.declared.motion.Motion.{Motion}
use Rattle.design_edits.specs.declared.motion.Motion.TheVariants as motion
use Rattle.design_edits.specs.declared.motion.TheConstants.{MAX_SHIFT}
use Rattle.design_edits.specs.Moves.{mirror_point, shift_point, turn_point}

-- The map over points that a motion is.
abbrev pub motion_map : Motion → Point → Point
motion_map (motion.Shift dx dy) = shift_point dx dy
motion_map (motion.Turn quarters) = turn_point quarters
motion_map (motion.Mirror a) = mirror_point a

-- The test whether a motion is within MAX_SHIFT; turns and mirrorings always are.
abbrev pub is_small_motion : Motion → Bool
is_small_motion (motion.Shift dx dy) = nat_le (unsigned_abs dx) MAX_SHIFT && nat_le
    (unsigned_abs dy) MAX_SHIFT
is_small_motion (motion.Turn quarters) = true
is_small_motion (motion.Mirror a) = true
