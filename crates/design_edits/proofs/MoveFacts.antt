-- Worked values of moves.
use Rattle.std.proofs.Common.{◌≡◌, ℤ, pos, negsuc, [], ◌∷◌, Some, None, refl, true, false, map}
use Rattle.design_edits.proofs.Names.{Stitch, Jump, Trim, Stop, Point, DesignValue, first_out_of_range, mirror_point, mirrored, shift_point, shifted, turn_point}
use Rattle.design_edits.specs.declared.axis.Axis.TheVariants as axis
use Rattle.design_edits.specs.declared.motion.TheConstants.{MAX_SHIFT}
use Rattle.design_edits.specs.Motions.{is_small_motion, motion_map}
use Rattle.design_edits.specs.declared.motion.Motion.TheVariants as motion

-- the point with those numbers
abbrev pub at : ℤ → ℤ → Point
at x y = record { x = x; y = y }

-- the greatest size of a shift on each axis, in tenths of a millimetre
pub known_most : MAX_SHIFT ≡ 60000
known_most = refl

-- a shift to the left and downwards
pub known_shift : shift_point (negsuc 4) (pos 70) (at (pos 1) (pos 2)) ≡ at (negsuc 3) (pos 72)
known_shift = refl

-- A quarter turn maps a point on the right to the bottom.
pub known_turn_point : (turn_point 1 (at (pos 30) (pos 0)) ≡ at (pos 0) (pos 30))
    × (turn_point 3 (at (pos 3) (negsuc 4)) ≡ at (negsuc 4) (negsuc 2))
known_turn_point = (refl, refl)

-- a mirroring changes one sign
pub known_mirror : mirror_point axis.Y (at (pos 3) (pos 5)) ≡ at (pos 3) (negsuc 4)
known_mirror = refl

-- a design of a needle, a jump, a trim and a stop
abbrev pub sample : DesignValue
sample = record {
  label = 65 ∷ [];
  threads = 9 ∷ [];
  commands = Stitch (at (pos 1) (pos 2)) ∷ Jump (at (pos 32767) (pos 0)) ∷ Trim ∷ Stop ∷ [];
}

pub known_mirrored : mirrored axis.X sample ≡ record sample {
  commands = Stitch (at (negsuc 0) (pos 2)) ∷ Jump (at (negsuc 32766) (pos 0)) ∷ Trim ∷ Stop ∷ [];
}
known_mirrored = refl

-- at 1 a needle may be shifted by 29999 and not by 30000; a jump has its own range
pub known_first_out_of_range : (first_out_of_range (shifted (pos 30000) (pos 0) sample).commands ≡ Some 1)
    × (first_out_of_range (shifted (pos 29999) (pos 0) sample).commands ≡ Some 2)
    × (first_out_of_range (shifted (negsuc 30000) (pos 29998) sample).commands ≡ None)
known_first_out_of_range = (refl, refl, refl)

-- a shift is small up to 6 m on each axis, and a turn and a mirroring always are
pub known_small_motion : map is_small_motion (motion.Shift (pos 60000) (negsuc 59999) ∷ motion.Shift (negsuc 60000) (pos 5)
    ∷ motion.Shift (pos 5) (pos 60001) ∷ motion.Turn 7 ∷ motion.Mirror axis.Y ∷ [])
    ≡ true ∷ false ∷ false ∷ true ∷ true ∷ []
known_small_motion = refl

-- the maps of a shift across and down, of a quarter turn and of a mirroring
pub known_motion_map : map (λ m. motion_map m (at (pos 1) (pos 2)))
    (motion.Shift (pos 10) (pos 500) ∷ motion.Turn 1 ∷ motion.Mirror axis.Y ∷ [])
    ≡ at (pos 11) (pos 502) ∷ at (negsuc 1) (pos 1) ∷ at (pos 1) (negsuc 1) ∷ []
known_motion_map = refl
