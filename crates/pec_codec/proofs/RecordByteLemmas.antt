-- Encoded coordinates are decoded as they were meant.
use Rattle.std.proofs.Common.{◌≡◌, ℕ, ◌+◌, ◌*◌, ◌/◌, ◌%◌, ◌<◌, ◌≤◌, ℤ, unsigned_abs, Bool, false, IsTrue, List, ◌∷◌, Some, ◌==◌, arith}
use Rattle.pec_codec.proofs.Names.{nat_tests, ints, LIMIT, Coordinate, leading_coordinate, is_short_number, to_twos_complement}

pub unsigned_short : (z : ℤ) → to_twos_complement 64 z < 128
unsigned_short z = grind (arith, nat_tests, ints)

pub unsigned_long : (z : ℤ) → to_twos_complement 2048 z < 4096
unsigned_long z = grind (arith, nat_tests, ints)

-- a coordinate of that number
abbrev pub coordinate_at : ℕ → ℤ → Bool → Bool → Coordinate
coordinate_at size z trims jumps = record { size = size; number = z; trims = trims; jumps = jumps }

-- what a short number reads as, whatever follows
pub leading_coordinate-short : (z : ℤ) (rest : List ℕ) → IsTrue (is_short_number z)
    → leading_coordinate (to_twos_complement 64 z ∷ rest) ≡ Some (coordinate_at 1 z false false)
leading_coordinate-short z rest h1 = grind (arith, nat_tests, ints)

-- what a number in two bytes reads as, whatever follows
pub leading_coordinate-long : (k : ℕ) (z : ℤ) (rest : List ℕ) → k < 4 → unsigned_abs z ≤ LIMIT
    → leading_coordinate ((128 + 16 * k + to_twos_complement 2048 z / 256) ∷ to_twos_complement 2048 z % 256 ∷ rest)
    ≡ Some (coordinate_at 2 z (k / 2 == 1) (k % 2 == 1))
leading_coordinate-long k z rest h1 h2 = grind (arith, nat_tests, ints)
