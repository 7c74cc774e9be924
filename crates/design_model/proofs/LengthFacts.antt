-- Worked values of lengths.
use Rattle.std.proofs.Common.{◌≡◌, ℤ, pos, negsuc, [], ◌∷◌, map, refl}
use Rattle.design_model.specs.Lengths.{length_of, square_of, whole_root, root_from}
use Rattle.design_model.specs.declared.point.Point.{Point}

abbrev point : ℤ → ℤ → Point
point x y = record { x = x; y = y }

-- 0.3 mm across and 0.4 mm down are 0.5 mm; the diagonal of a tenth is 0.141 mm; 3 m across and 4 m down are 5 m.
pub known_lengths : map (length_of (point (pos 0) (pos 0)))
    (point (pos 3) (negsuc 3) ∷ point (pos 1) (pos 1) ∷ point (pos 30000) (pos 40000) ∷ [])
    ≡ 500 ∷ 141 ∷ 5000000 ∷ []
unfolding length_of square_of whole_root
known_lengths = refl

-- the root of 200 is 14: from 8, which has the digits above the last three, and from nothing
pub known_root : root_from 200 3 8 ∷ root_from 200 4 0 ∷ root_from 200 3 0 ∷ root_from 196 4 0 ∷ root_from 195 4 0 ∷ []
    ≡ 14 ∷ 14 ∷ 7 ∷ 14 ∷ 13 ∷ []
known_root = refl

-- a root has 64 binary digits: the greatest is that of 2 ^ 128 - 1, and of each number above it
pub known_greatest : map whole_root (340282366920938463463374607431768211455 ∷ 340282366920938463463374607431768211456 ∷ [])
    ≡ 18446744073709551615 ∷ 18446744073709551615 ∷ []
unfolding whole_root
known_greatest = refl
