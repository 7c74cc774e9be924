-- The bytes of the records of a PEC block.
use Rattle.std.specs.Prelude.{ℕ, ◌%◌, ◌&&◌, pos, List, [], ◌∷◌, ◌++◌, ◌==◌, if◌then◌else◌}
use Rattle.design_model.specs.declared.point.Point.{Point}
use Rattle.pec_codec.specs.Coordinates.{is_short_number, short_bytes, long_bytes_of}

-- The record of a move in two bytes a coordinate, with the same marks in both.
abbrev pub long_record : ℕ → Point → List ℕ
long_record marks m = long_bytes_of marks m.x ++ long_bytes_of marks m.y

-- The record of a stitch: one byte a coordinate where both are short, else two.
abbrev pub pec_stitch_record : Point → List ℕ
pec_stitch_record m =
    if is_short_number m.x && is_short_number m.y then short_bytes m.x
    ++ short_bytes m.y else long_record 0 m

-- The record of a jump, with the mark of a jump in both coordinates.
abbrev pub pec_jump_record : Point → List ℕ
pec_jump_record m = long_record 16 m

-- The record of a trim: a move of (0, 0) with the mark of a trim in both coordinates.
abbrev pub pec_trim_record : List ℕ
pec_trim_record = long_record 32 (record { x = pos 0; y = pos 0 })

-- The last byte of a stop: 2 and 1 in turn, by the number of stops before.
abbrev pub stop_byte_of : ℕ → ℕ
stop_byte_of before = if before % 2 == 0 then 2 else 1

-- The record of a stop after `before` others.
abbrev pub pec_stop_record : ℕ → List ℕ
pec_stop_record before = 254 ∷ 176 ∷ stop_byte_of before ∷ []

-- The byte at the end of the records.
abbrev pub pec_end_record : List ℕ
pec_end_record = 255 ∷ []
