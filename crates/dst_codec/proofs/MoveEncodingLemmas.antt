-- The record of a move has that move, and its kind is that of its flags.
use Rattle.std.proofs.Common.{◌≡◌, ℕ, ◌+◌, ◌-◌, ◌*◌, ◌/◌, ◌%◌, ◌<◌, ◌≤◌, ℤ, pos, ◌-ℤ◌, unsigned_abs, IsTrue, arith}
use Rattle.dst_codec.proofs.Names.{nat_tests, ints, Point, is_point_within, LIMIT, bit_of_byte, dst_move_of, rightwards, leftwards, upwards, downwards, biased_number, plus_bit, minus_bit, x_signs, y_signs, within_parts, point_of_parts}

-- the third byte of a record with flags
abbrev pub third_of : ℕ → Point → ℕ
third_of flags m = 3 + 4 * plus_bit 81 m.x + 8 * minus_bit 81 m.x + 16 * plus_bit 81 m.y + 32 * minus_bit 81 m.y + flags

-- a byte of two half bytes
abbrev pub byte_of : ℕ → ℕ → Point → ℕ
byte_of lesser greater m = x_signs lesser greater m.x + 16 * y_signs lesser greater m.y

-- one digit taken plus, less what is taken minus
digit : (t : ℕ) → t < 3 → t / 2 + 1 ≡ (2 - t) / 2 + t
digit t small = omega arith

-- the difference of two sums that differ as a number does from 121
difference : (z : ℤ) (a b : ℕ) → unsigned_abs z ≤ 121 → a + 121 ≡ b + biased_number z → pos a -ℤ pos b ≡ z
difference z a b h1 h2 = grind (arith, nat_tests, ints)

sums : (n : ℕ) → n < 243 → let t = λ (part : ℕ). n / part % 3 in
    t 1 / 2 + 3 * (t 3 / 2) + 9 * (t 9 / 2) + 27 * (t 27 / 2) + 81 * (t 81 / 2) + 121
    ≡ (2 - t 1) / 2 + 3 * ((2 - t 3) / 2) + 9 * ((2 - t 9) / 2) + 27 * ((2 - t 27) / 2) + 81 * ((2 - t 81) / 2) + n
sums n h1 = grind (arith, nat_tests, ints)

x_move : (x : ℤ) (a b c : ℕ) → unsigned_abs x ≤ 121 → bit_of_byte a 1 ≡ plus_bit 1 x → bit_of_byte a 2 ≡ minus_bit 1 x
    → bit_of_byte a 4 ≡ plus_bit 9 x → bit_of_byte a 8 ≡ minus_bit 9 x → bit_of_byte b 1 ≡ plus_bit 3 x → bit_of_byte b 2 ≡ minus_bit 3 x
    → bit_of_byte b 4 ≡ plus_bit 27 x → bit_of_byte b 8 ≡ minus_bit 27 x → bit_of_byte c 4 ≡ plus_bit 81 x
    → bit_of_byte c 8 ≡ minus_bit 81 x → pos (rightwards a b c) -ℤ pos (leftwards a b c) ≡ x
x_move x a b c h1 h2 h3 h4 h5 h6 h7 h8 h9 h10 h11 = grind (arith, nat_tests, ints)

y_move : (y : ℤ) (a b c : ℕ) → unsigned_abs y ≤ 121 → bit_of_byte a 64 ≡ plus_bit 1 y → bit_of_byte a 128 ≡ minus_bit 1 y
    → bit_of_byte a 16 ≡ plus_bit 9 y → bit_of_byte a 32 ≡ minus_bit 9 y → bit_of_byte b 64 ≡ plus_bit 3 y
    → bit_of_byte b 128 ≡ minus_bit 3 y → bit_of_byte b 16 ≡ plus_bit 27 y → bit_of_byte b 32 ≡ minus_bit 27 y
    → bit_of_byte c 16 ≡ plus_bit 81 y → bit_of_byte c 32 ≡ minus_bit 81 y → pos (downwards a b c) -ℤ pos (upwards a b c) ≡ y
y_move y a b c h1 h2 h3 h4 h5 h6 h7 h8 h9 h10 h11 = grind (arith, nat_tests, ints)

-- the bits of a first or a second byte
byte_x : (lesser greater : ℕ) (m : Point) → let byte = byte_of lesser greater m in
    (bit_of_byte byte 1 ≡ plus_bit lesser m.x) × (bit_of_byte byte 2 ≡ minus_bit lesser m.x)
    × (bit_of_byte byte 4 ≡ plus_bit greater m.x) × (bit_of_byte byte 8 ≡ minus_bit greater m.x)
byte_x lesser greater m = grind (arith, nat_tests, ints)

byte_y : (lesser greater : ℕ) (m : Point) → let byte = byte_of lesser greater m in
    (bit_of_byte byte 16 ≡ plus_bit greater m.y) × (bit_of_byte byte 32 ≡ minus_bit greater m.y)
    × (bit_of_byte byte 64 ≡ plus_bit lesser m.y) × (bit_of_byte byte 128 ≡ minus_bit lesser m.y)
byte_y lesser greater m = grind (arith, nat_tests, ints)

-- the bits of a third byte whose flags are k
byte_third : (flags k : ℕ) (m : Point) → flags ≡ 64 * k → let byte = third_of flags m in
    (bit_of_byte byte 4 ≡ plus_bit 81 m.x) × (bit_of_byte byte 8 ≡ minus_bit 81 m.x)
    × (bit_of_byte byte 16 ≡ plus_bit 81 m.y) × (bit_of_byte byte 32 ≡ minus_bit 81 m.y)
byte_third flags k m h1 = grind (arith, nat_tests, ints)

-- the bytes of a record have its move
pub dst_move_of-record : (flags k : ℕ) (m : Point) → flags ≡ 64 * k → IsTrue (is_point_within LIMIT m)
    → dst_move_of (byte_of 1 9 m) (byte_of 3 27 m) (third_of flags m) ≡ m
dst_move_of-record flags k m is within =
    let small = within_parts LIMIT m within in
    let ax = byte_x 1 9 m in let ay = byte_y 1 9 m in
    let bx = byte_x 3 27 m in let by = byte_y 3 27 m in
    let c = byte_third flags k m is in
    let x : pos (rightwards (byte_of 1 9 m) (byte_of 3 27 m) (third_of flags m))
    -ℤ pos (leftwards (byte_of 1 9 m) (byte_of 3 27 m) (third_of flags m)) ≡ m.x =
    x_move m.x (byte_of 1 9 m) (byte_of 3 27 m) (third_of flags m) small.0
    ax.0 ax.1 ax.2 ax.3 bx.0 bx.1 bx.2 bx.3 c.0 c.1 in
    let y : pos (downwards (byte_of 1 9 m) (byte_of 3 27 m) (third_of flags m))
    -ℤ pos (upwards (byte_of 1 9 m) (byte_of 3 27 m) (third_of flags m)) ≡ m.y =
    y_move m.y (byte_of 1 9 m) (byte_of 3 27 m) (third_of flags m) small.1
    ay.2 ay.3 ay.0 ay.1 by.2 by.3 by.0 by.1 c.2 c.3 in
    point_of_parts x y
