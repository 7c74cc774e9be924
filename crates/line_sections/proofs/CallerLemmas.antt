-- Lemmas that this crate and those above cite.
use Rattle.std.proofs.Common.{arith, true, ◌==◌, ◌≡◌}
use Rattle.line_sections.proofs.Names.{and_parts, nat_tests, same_is, is_same_point, is_same_spot, Spot, same_number, Decides-int_eq}

-- a spot is found to be equal to itself
pub spot_found : (a : Spot) → is_same_spot a a ≡ true
spot_found a = grind (arith, nat_tests, Decides-int_eq a.at.x a.at.x, Decides-int_eq a.at.y a.at.y)

-- Spots that pass the test are equal.
pub same_spot : (a b : Spot) → is_same_spot a b ≡ true → a ≡ b
same_spot a b found =
    grind (arith, nat_tests, and_parts (a.block == b.block) (is_same_point a.at b.at) found, same_number a.block b.block, same_is a.at b.at)
