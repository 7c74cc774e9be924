-- Worked values of counts.
use Rattle.std.proofs.Common.{◌≡◌, ◌+◌, ◌^◌, refl}
use Rattle.outside_io.proofs.Names.{MAX_COUNT, next_count}

-- the first number is 1
pub known_first : next_count 0 ≡ 1
known_first = refl

-- the greatest count is 2 to the 64th, less one
pub known_greatest : MAX_COUNT + 1 ≡ 2 ^ 64
known_greatest = refl

-- the greatest count is reached, and left no more
pub known_next_count : (next_count 18446744073709551614 ≡ MAX_COUNT)
    × (next_count MAX_COUNT ≡ MAX_COUNT)
known_next_count = (refl, refl)
