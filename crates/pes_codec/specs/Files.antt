-- The bytes before the block of a PEC or PES file. Words have the low byte first.
use Rattle.std.specs.Prelude.{ℕ, List, ◌++◌, Bool, nat_eq, drop, replicate, codes}
use Rattle.std.specs.List.{starts_with}
use Rattle.byteorder.specs.Endian.{little_bytes, little_number}

-- True for bytes that begin with the signature of a PEC file; the version digits after it may be
-- any.
abbrev pub is_pec_file : List ℕ → Bool
is_pec_file bytes = starts_with nat_eq bytes (codes "#PEC")

-- True for bytes that begin with the signature of a PES file; the version digits after it may be
-- any.
abbrev pub is_pes_file : List ℕ → Bool
is_pes_file bytes = starts_with nat_eq bytes (codes "#PES")

-- The offset of the block in a PES file, which the file contains.
abbrev pub block_offset_in : List ℕ → ℕ
block_offset_in bytes = little_number 4 (drop 8 bytes)

-- The front of a PEC file: its signature and version.
abbrev pub pec_front : List ℕ
pec_front = codes "#PEC0001"

-- The front of a PES file of version 1 without sewing segments: its signature and version, the
-- offset of the block, and ten bytes of 0.
abbrev pub pes_front : List ℕ
pes_front = codes "#PES0001" ++ little_bytes 4 22 ++ replicate 10 0
