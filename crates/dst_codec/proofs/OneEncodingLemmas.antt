-- A stitch record with no part both plus and minus is the record of its move.
use Rattle.std.proofs.Common.{◌≡◌, ℕ, ◌+◌, ◌-◌, ◌*◌, ◌/◌, ◌%◌, ◌<◌, ◌≤◌, ℤ, pos, ◌-ℤ◌, [], ◌∷◌, refl, arith}
use Rattle.dst_codec.proofs.Names.{nat_tests, ints, bit_of_byte, dst_move_of, rightwards, leftwards, upwards, downwards, IsCanonicalByte, IsCanonicalThird, plus_bit, minus_bit, dst_stitch_record}

-- a part that is plus, minus or neither, as a digit
half : (t p q : ℕ) → p + q ≤ 1 → t + q ≡ 1 + p → (t / 2 ≡ p) × ((2 - t) / 2 ≡ q)
half t p q few is = (omega arith, omega arith)

-- the parts of an axis that are plus and minus, by its number
pub record HasParts (z : ℤ) (p1 p3 p9 p27 p81 q1 q3 q9 q27 q81 : ℕ) : Type 0 where
  pub ones : (plus_bit 1 z ≡ p1) × (minus_bit 1 z ≡ q1)
  pub threes : (plus_bit 3 z ≡ p3) × (minus_bit 3 z ≡ q3)
  pub nines : (plus_bit 9 z ≡ p9) × (minus_bit 9 z ≡ q9)
  pub twenty_sevens : (plus_bit 27 z ≡ p27) × (minus_bit 27 z ≡ q27)
  pub eighty_ones : (plus_bit 81 z ≡ p81) × (minus_bit 81 z ≡ q81)

parts_of : (z : ℤ) (p1 p3 p9 p27 p81 q1 q3 q9 q27 q81 : ℕ) → p1 + q1 ≤ 1 → p3 + q3 ≤ 1 → p9 + q9 ≤ 1 → p27 + q27 ≤ 1 → p81 + q81 ≤ 1
    → pos (p1 + 3 * p3 + 9 * p9 + 27 * p27 + 81 * p81) -ℤ pos (q1 + 3 * q3 + 9 * q9 + 27 * q27 + 81 * q81) ≡ z
    → HasParts z p1 p3 p9 p27 p81 q1 q3 q9 q27 q81
parts_of z p1 p3 p9 p27 p81 q1 q3 q9 q27 q81 h1 h2 h3 h4 h5 h6 = grind (arith, nat_tests, ints)

-- a byte by its bits
byte_of_bits : (n : ℕ) → n < 256 → bit_of_byte n 1 + 2 * bit_of_byte n 2 + 4 * bit_of_byte n 4 + 8 * bit_of_byte n 8
    + 16 * (bit_of_byte n 16 + 2 * bit_of_byte n 32 + 4 * bit_of_byte n 64 + 8 * bit_of_byte n 128) ≡ n
byte_of_bits n small = omega arith

third_of_bits : (n : ℕ) → n < 64 → n % 4 ≡ 3
    → 3 + 4 * bit_of_byte n 4 + 8 * bit_of_byte n 8 + 16 * bit_of_byte n 16 + 32 * bit_of_byte n 32 + 0 ≡ n
third_of_bits n small low = omega arith

-- the record of the move of three bytes
pub same_record : (a b c : ℕ) → IsCanonicalByte a → IsCanonicalByte b → IsCanonicalThird c
    → dst_stitch_record (dst_move_of a b c) ≡ a ∷ b ∷ c ∷ []
same_record a b c ha hb hc =
    let x = parts_of (pos (rightwards a b c) -ℤ pos (leftwards a b c)) (bit_of_byte a 1) (bit_of_byte b 1) (bit_of_byte a 4)
    (bit_of_byte b 4) (bit_of_byte c 4)
    (bit_of_byte a 2) (bit_of_byte b 2) (bit_of_byte a 8) (bit_of_byte b 8) (bit_of_byte c 8) ha.x_lesser hb.x_lesser ha.x_greater
    hb.x_greater hc.x refl in
    let y = parts_of (pos (downwards a b c) -ℤ pos (upwards a b c)) (bit_of_byte a 64) (bit_of_byte b 64) (bit_of_byte a 16)
    (bit_of_byte b 16) (bit_of_byte c 16)
    (bit_of_byte a 128) (bit_of_byte b 128) (bit_of_byte a 32) (bit_of_byte b 32) (bit_of_byte c 32) ha.y_lesser hb.y_lesser ha.y_greater
    hb.y_greater hc.y refl in
    rw (
      x.ones.0,
      x.ones.1,
      x.threes.0,
      x.threes.1,
      x.nines.0,
      x.nines.1,
      x.twenty_sevens.0,
      x.twenty_sevens.1,
      x.eighty_ones.0,
      x.eighty_ones.1,
      y.ones.0,
      y.ones.1,
      y.threes.0,
      y.threes.1,
      y.nines.0,
      y.nines.1,
      y.twenty_sevens.0,
      y.twenty_sevens.1,
      y.eighty_ones.0,
      y.eighty_ones.1,
    ) (rw (byte_of_bits a ha.small, byte_of_bits b hb.small, third_of_bits c hc.small hc.set) refl)
