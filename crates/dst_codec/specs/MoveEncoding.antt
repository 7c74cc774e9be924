-- The encoding of a move in a DST record. A number from -121 to 121 has one balanced ternary
-- expansion: a sum of 1, 3, 9, 27 and 81, each taken plus, minus or not at all.
use Rattle.std.specs.Prelude.{ℕ, ◌+◌, ◌-◌, ◌*◌, ◌/◌, ◌%◌, ℤ, pos, negsuc, List, [], ◌∷◌}
use Rattle.design_model.specs.declared.point.Point.{Point}
use Rattle.design_model.specs.Points.{origin}

-- A number from -121 to 121, counted from 0 to 242.
abbrev pub biased_number : ℤ → ℕ
biased_number (pos n) = 121 + n
biased_number (negsuc n) = 120 - n

-- The balanced ternary digit of a number at a power of three: 0 for minus, 1 for none, 2 for plus.
abbrev pub ternary_digit : ℕ → ℤ → ℕ
ternary_digit part z = biased_number z / part % 3

-- 1 where the power of three is taken plus; else 0.
abbrev pub plus_bit : ℕ → ℤ → ℕ
plus_bit part z = ternary_digit part z / 2

-- 1 where the power of three is taken minus; else 0.
abbrev pub minus_bit : ℕ → ℤ → ℕ
minus_bit part z = (2 - ternary_digit part z) / 2

-- The low half of a byte: the four bits of a lesser and a greater power of three in x.
abbrev pub x_signs : ℕ → ℕ → ℤ → ℕ
x_signs lesser greater x = plus_bit lesser x + 2 * minus_bit lesser x + 4 * plus_bit greater x
    + 8 * minus_bit greater x

-- The high half of a byte, as a number below 16: the four bits of the two powers in y, in the
-- opposite order.
abbrev pub y_signs : ℕ → ℕ → ℤ → ℕ
y_signs lesser greater y = plus_bit greater y + 2 * minus_bit greater y + 4 * plus_bit lesser y
    + 8 * minus_bit lesser y

-- The record of a move, with its flags: 0 for a stitch, 128 for a jump.
abbrev pub record_of : ℕ → Point → List ℕ
record_of flags m = (x_signs 1 9 m.x + 16 * y_signs 1 9 m.y)
    ∷ (x_signs 3 27 m.x + 16 * y_signs 3 27 m.y)
    ∷ (3 + 4 * plus_bit 81 m.x + 8 * minus_bit 81 m.x + 16 * plus_bit 81 m.y + 32 * minus_bit 81 m.y
    + flags) ∷ []

-- The record of a stitch.
abbrev pub dst_stitch_record : Point → List ℕ
dst_stitch_record m = record_of 0 m

-- The record of a jump.
abbrev pub dst_jump_record : Point → List ℕ
dst_jump_record m = record_of 128 m

-- The records of a trim: three jumps that lead back to where they began.
abbrev pub dst_trim_records : List (List ℕ)
dst_trim_records = dst_jump_record (record { x = pos 2; y = pos 2 })
    ∷ dst_jump_record (record { x = negsuc 3; y = negsuc 3 })
    ∷ dst_jump_record (record { x = pos 2; y = pos 2 }) ∷ []

-- The record of a stop.
abbrev pub dst_stop_record : List ℕ
dst_stop_record = record_of 192 origin

-- The record at the end of a file.
abbrev pub dst_end_record : List ℕ
dst_end_record = record_of 240 origin
