-- Each move has one encoding as a DST record.
use Rattle.std.specs.Prelude.{◌≡◌, ℕ, ◌+◌, ◌%◌, ◌<◌, ◌≤◌, [], ◌∷◌}
use Rattle.dst_codec.specs.Bits.{bit_of_byte, dst_move_of}
use Rattle.dst_codec.specs.MoveEncoding.{dst_stitch_record}

-- At most one of two bits of a byte is set; the bits are given by their worths.
abbrev pub NotBoth : ℕ → ℕ → ℕ → Type 0
NotBoth byte forth back = bit_of_byte byte forth + bit_of_byte byte back ≤ 1

-- A first or second byte of a canonical record: no part of either axis is both plus and minus.
pub record IsCanonicalByte (byte : ℕ) : Type 0 where
  pub small : byte < 256
  pub x_lesser : NotBoth byte 1 2
  pub x_greater : NotBoth byte 4 8
  pub y_greater : NotBoth byte 16 32
  pub y_lesser : NotBoth byte 64 128

-- A third byte of a canonical stitch record: no part is both plus and minus, no flag is set, and
-- both low bits are.
pub record IsCanonicalThird (byte : ℕ) : Type 0 where
  pub small : byte < 64
  pub set : byte % 4 ≡ 3
  pub x : NotBoth byte 4 8
  pub y : NotBoth byte 16 32

-- Theorem: three bytes of a canonical stitch record are the encoding of their move.
abbrev pub MovesHaveOneEncoding : Type 0
MovesHaveOneEncoding = (first second third : ℕ)
    → IsCanonicalByte first → IsCanonicalByte second → IsCanonicalThird third
    → dst_stitch_record (dst_move_of first second third) ≡ first ∷ second ∷ third ∷ []
