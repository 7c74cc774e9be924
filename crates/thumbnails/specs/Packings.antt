-- A thumbnail in bytes: 38 rows of six bytes, in which the lowest bit is the first column.
use Rattle.std.specs.Prelude.{ℕ, zero, suc, ◌+◌, ◌*◌, List, [], ◌∷◌, ◌++◌, if◌then◌else◌}
use Rattle.thumbnails.specs.declared.packing.TheConstants.{ROWS}
use Rattle.thumbnails.specs.LitPoints.{ThumbPoints}

-- 1 for a point that is lit, else 0.
abbrev pub bit_at : ThumbPoints → (column row : ℕ) → ℕ
bit_at points column row = if points (record { column = column; row = row }) then 1 else 0

-- The byte of eight points of a row, the first of which has that column.
abbrev pub byte_at : ThumbPoints → (column row : ℕ) → ℕ
byte_at points column row = bit_at points column row
    + (2 * bit_at points (column + 1) row + (4 * bit_at points (column + 2) row
    + (8 * bit_at points (column + 3) row + (16 * bit_at points (column + 4) row
    + (32 * bit_at points (column + 5) row + (64 * bit_at points (column + 6) row
    + 128 * bit_at points (column + 7) row))))))

-- The six bytes of a row.
abbrev pub row_bytes : ThumbPoints → ℕ → List ℕ
row_bytes points row = byte_at points 0 row ∷ byte_at points 8 row ∷ byte_at points 16 row
    ∷ byte_at points 24 row ∷ byte_at points 32 row ∷ byte_at points 40 row ∷ []

-- The bytes of some rows, the first of which has that number.
abbrev pub rows_from : ThumbPoints → (row left : ℕ) → List ℕ
rows_from points row zero = []
rows_from points row (suc left) = row_bytes points row ++ rows_from points (row + 1) left

-- The bytes of a thumbnail.
unfoldable pub thumb_bytes : ThumbPoints → List ℕ
thumb_bytes points = rows_from points 0 ROWS
