-- Worked values of the steps.
use Rattle.std.proofs.Common.{◌≡◌, ℤ, pos, negsuc, [], ◌∷◌, refl}
use Rattle.step_splitter.proofs.Names.{Point, origin, last_point_or, floor_quotient, split_points, steps_of}
use Rattle.step_splitter.specs.declared.segment.TheConstants.{MAX_STEP}

-- the point at those numbers
abbrev pub at : ℤ → ℤ → Point
at x y = record { x = x; y = y }

-- -7 / 3 is -3, and -6 / 3 is -2
pub known_floor_quotient : (floor_quotient (negsuc 6) 3 ≡ negsuc 2)
    × (floor_quotient (negsuc 5) 3 ≡ negsuc 1)
known_floor_quotient = (refl, refl)

-- the greatest value of a longest step, in tenths of a millimetre
pub known_most : MAX_STEP ≡ 2047
known_most = refl

-- the larger axis counts, in either direction
pub known_steps_down : steps_of (at (pos 5) (pos 100)) (at (negsuc 4) (negsuc 0)) 30 ≡ 4
known_steps_down = refl

-- from (10, -10) by (6, -9) in two steps: 3 and 6, and half of -9 is rounded to -5
pub known_moved_split : split_points (at (pos 10) (negsuc 9)) (at (pos 16) (negsuc 18)) 5
    ≡ at (pos 13) (negsuc 14) ∷ at (pos 16) (negsuc 18) ∷ []
known_moved_split = refl

-- a move of 30 is one step of at most 30, and a move of 31 is two
pub known_steps_of : (steps_of origin (at (pos 30) (pos 0)) 30 ≡ 1)
    × (steps_of origin (at (pos 31) (pos 0)) 30 ≡ 2)
known_steps_of = (refl, refl)

-- from the origin to (-7, 3) in three steps: -14 / 3 is rounded to -5
pub known_split : split_points origin (at (negsuc 6) (pos 3)) 3
    ≡ at (negsuc 2) (pos 1) ∷ at (negsuc 4) (pos 2) ∷ at (negsuc 6) (pos 3) ∷ []
known_split = refl

-- the last of some points, and of none the point before
pub known_last : (last_point_or origin (at (pos 1) (pos 2) ∷ at (pos 3) (pos 4) ∷ []) ≡ at (pos 3) (pos 4))
    × (last_point_or (at (pos 5) (pos 6)) [] ≡ at (pos 5) (pos 6))
known_last = (refl, refl)
