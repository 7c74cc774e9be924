-- The bits of a DST record of three bytes, as the Tajima DST format has them. The file's y points
-- upwards and a design's downwards: y+1 is a move of 1 upwards.
--
--          bit 7  bit 6  bit 5  bit 4  bit 3  bit 2  bit 1  bit 0
--   first   y+1    y-1    y+9    y-9    x-9    x+9    x-1    x+1
--   second  y+3    y-3    y+27   y-27   x-27   x+27   x-3    x+3
--   third   flag   flag   y+81   y-81   x-81   x+81   set    set
use Rattle.std.specs.Prelude.{ℕ, ◌+◌, ◌*◌, ◌/◌, ◌%◌, pos, ◌-ℤ◌, List, ◌∷◌, ◌==◌, if◌then◌else◌}
use Rattle.design_model.specs.declared.point.Point.{Point}
use Rattle.design_model.specs.Points.{origin}
use Rattle.dst_codec.specs.declared.record_kind.RecordKind.{RecordKind}
use Rattle.dst_codec.specs.declared.record_kind.RecordKind.TheVariants as kind

-- One bit of a byte, as 0 or 1, by its worth: 1, 2, 4 up to 128.
abbrev pub bit_of_byte : ℕ → ℕ → ℕ
bit_of_byte byte worth = byte / worth % 2

-- The sum of the set bits of one direction. The bit of the worth `one` counts 1 and 3, the bit of
-- the worth `nine` counts 9, 27 and 81.
abbrev pub sum_along : ℕ → ℕ → ℕ → ℕ → ℕ → ℕ
sum_along one nine first second third = bit_of_byte first one + 3 * bit_of_byte second one
    + 9 * bit_of_byte first nine + 27 * bit_of_byte second nine + 81 * bit_of_byte third nine

-- The sum of the set bits of moves to the right.
abbrev pub rightwards : ℕ → ℕ → ℕ → ℕ
rightwards first second third = sum_along 1 4 first second third

-- The sum of the set bits of moves to the left.
abbrev pub leftwards : ℕ → ℕ → ℕ → ℕ
leftwards first second third = sum_along 2 8 first second third

-- The sum of the set bits of moves upwards.
abbrev pub upwards : ℕ → ℕ → ℕ → ℕ
upwards first second third = sum_along 128 32 first second third

-- The sum of the set bits of moves downwards.
abbrev pub downwards : ℕ → ℕ → ℕ → ℕ
downwards first second third = sum_along 64 16 first second third

-- The move of a record by its three bytes, in a design's axes.
abbrev pub dst_move_of : ℕ → ℕ → ℕ → Point
dst_move_of first second third = record {
  x = pos (rightwards first second third) -ℤ pos (leftwards first second third);
  y = pos (downwards first second third) -ℤ pos (upwards first second third);
}

-- The move of a record at the beginning of bytes.
abbrev pub dst_move_in : List ℕ → Point
dst_move_in (first ∷ second ∷ third ∷ rest) = dst_move_of first second third
dst_move_in _ = origin

-- The kind of a record by its third byte. All bits but 2 and 3 are set in the end record. Where the
-- two low bits are set, the two flags give the kind. Any other record is a stitch.
abbrev pub kind_of : ℕ → RecordKind
kind_of third =
    if third % 4 == 3 then
    (if third / 16 == 15 then kind.End
    else (if third / 64 == 3 then kind.Stop
    else (if third / 64 == 2 then kind.Jump
    else (if third / 64 == 1 then kind.Sequin
    else kind.Stitch))))
    else kind.Stitch
