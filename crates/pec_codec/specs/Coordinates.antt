-- The coordinates of the move of a PEC record, in tenths of a millimetre. A byte below 128 is a
-- number of 7 bits by itself. Other numbers have 12 bits in two bytes, the higher first, with marks
-- in the first byte:
--
--          bit 7  bit 6  bit 5  bit 4  bits 3 to 0
--   first   set   any    trim   jump   high bits
use Rattle.std.specs.Prelude.{ℕ, ◌+◌, ◌*◌, ◌/◌, ◌%◌, ℤ, pos, negsuc, Bool, false, List, [], ◌∷◌, Option, Some, None, nat_lt, nat_le, ◌==◌, if◌then◌else◌}
use Rattle.record_formats.specs.TwosComplement.{from_twos_complement, to_twos_complement}
use Rattle.pec_codec.specs.declared.coordinate.Coordinate.{Coordinate}

-- True for the numbers that the writer encodes in one byte.
abbrev pub is_short_number : ℤ → Bool
is_short_number (pos n) = nat_le n 62
is_short_number (negsuc n) = nat_le n 62

-- A coordinate of one byte, which has no marks.
abbrev pub coordinate_of_byte : ℕ → Coordinate
coordinate_of_byte byte = record {
  size = 1;
  number = from_twos_complement 64 byte;
  trims = false;
  jumps = false;
}

-- A coordinate of two bytes.
abbrev pub coordinate_of_two_bytes : ℕ → ℕ → Coordinate
coordinate_of_two_bytes first second = record {
  size = 2;
  number = from_twos_complement 2048 (first % 16 * 256 + second);
  trims = first / 32 % 2 == 1;
  jumps = first / 16 % 2 == 1;
}

-- A coordinate of two bytes, where the second byte is there.
abbrev pub long_coordinate_in : ℕ → List ℕ → Option Coordinate
long_coordinate_in first [] = None
long_coordinate_in first (second ∷ rest) = Some (coordinate_of_two_bytes first second)

-- The coordinate at the beginning of bytes, unless the bytes end before it does.
abbrev pub leading_coordinate : List ℕ → Option Coordinate
leading_coordinate [] = None
leading_coordinate (first ∷ rest) =
    if nat_lt first 128 then Some (coordinate_of_byte first) else long_coordinate_in first rest

-- The encoding of a number in one byte.
abbrev pub short_bytes : ℤ → List ℕ
short_bytes z = to_twos_complement 64 z ∷ []

-- The encoding of a number in two bytes, with its marks in the first: 32 for a trim, 16 for a jump.
abbrev pub long_bytes_of : ℕ → ℤ → List ℕ
long_bytes_of marks z = (128 + marks + to_twos_complement 2048 z / 256) ∷ to_twos_complement 2048 z
    % 256 ∷ []
