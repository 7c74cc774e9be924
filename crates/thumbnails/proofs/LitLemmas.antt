-- The points of a line that are left, and the rows of a thumbnail, one at a time; and one more point of a table.
use Rattle.std.proofs.Common.{◌≡◌, ℕ, zero, suc, ◌+◌, ◌-◌, ◌*◌, ◌<◌, ◌≤◌, Bool, true, false, ◌&&◌, nat_lt, List, ◌++◌, length, get_or, replicate, set, refl, append_assoc, arith, ap, sym, ◌∙◌}
use Rattle.std.proofs.Math.Path.{fun_ext}
use Rattle.std.proofs.lemmas.Bool.Decides.{nat_tests}
use Rattle.std.proofs.lemmas.List.{get_or-set_same, get_or-set_other}
use Rattle.thumbnails.specs.declared.lit_points.ThumbPoint.{ThumbPoint}
use Rattle.thumbnails.specs.LitPoints.{ThumbPoints, no_points, length_of_line, point_of_line, points_in_cells, with_line_from, with_thumb_point}
use Rattle.thumbnails.specs.Packings.{row_bytes, rows_from}

-- The next point of a line is lit.
pub lights_next : (old new all : ThumbPoints) (one a b : ThumbPoint) (steps step : ℕ) → step ≤ steps → steps ≡ length_of_line a b
    → one ≡ point_of_line steps step a b → new ≡ with_thumb_point old one → with_line_from old a b step (steps + 1 - step) ≡ all
    → with_line_from new a b (step + 1) (steps + 1 - (step + 1)) ≡ all
lights_next old new all one a b steps step most steps_are one_is lit before =
    let more : steps + 1 - step ≡ suc (steps + 1 - (step + 1)) = omega (arith, most) in
    let there : one ≡ point_of_line (length_of_line a b) step a b = one_is ∙ ap (λ (n : ℕ). point_of_line n step a b) steps_are in
    ap (λ (points : ThumbPoints). with_line_from points a b (step + 1) (steps + 1 - (step + 1))) (lit ∙ ap (with_thumb_point old) there)
    ∙ sym (ap (with_line_from old a b step) more) ∙ before

-- The next row is written.
pub rows_next : (points : ThumbPoints) (old new all : List ℕ) (rows row : ℕ) → row < rows → new ≡ old ++ row_bytes points row
    → old ++ rows_from points row (rows - row) ≡ all → new ++ rows_from points (row + 1) (rows - (row + 1)) ≡ all
rows_next points old new all rows row few written before =
    let more : rows - row ≡ suc (rows - (row + 1)) = omega (arith, few) in
    ap (λ (text : List ℕ). text ++ rows_from points (row + 1) (rows - (row + 1))) written
    ∙ append_assoc old (row_bytes points row) (rows_from points (row + 1) (rows - (row + 1)))
    ∙ sym (ap (λ (n : ℕ). old ++ rows_from points row n) more) ∙ before

-- One more point of a table is lit.
pub lit_one : (cells : List Bool) (one other : ThumbPoint) → one.column < 48 → one.row * 48 + one.column < length cells
    → points_in_cells (set cells (one.row * 48 + one.column) true) other ≡ with_thumb_point (points_in_cells cells) one other
lit_one cells one other column inside = grind (arith, nat_tests, get_or-set_same, get_or-set_other)

-- The points of a table with one more are those of the table with one more.
pub lights_one : (old new : List Bool) (one : ThumbPoint) (at : ℕ) → one.column < 48 → one.row < 48 → length old ≡ 2304
    → at ≡ one.row * 48 + one.column → new ≡ set old at true → points_in_cells new ≡ with_thumb_point (points_in_cells old) one
lights_one old new one at column row size place is = fun_ext (λ other.
    ap (λ (cells : List Bool). points_in_cells cells other) (is ∙ ap (λ (n : ℕ). set old n true) place)
    ∙ lit_one old one other column (omega (arith, column, row, size)))

-- Of a table that is nowhere lit there is no point.
none_at : (n i : ℕ) → get_or (replicate n false) i false ≡ false
none_at zero i = refl
none_at (suc n) zero = refl
none_at (suc n) (suc i) = none_at n i

pub none_lit : (n : ℕ) (cells : List Bool) → cells ≡ replicate n false → points_in_cells cells ≡ no_points
none_lit n cells is = fun_ext (λ other. by (nat_lt other.column 48) (other.row * 48 + other.column))
  where
    by : (test : Bool) (i : ℕ) → test && get_or cells i false ≡ false
    by true i = ap (λ (xs : List Bool). get_or xs i false) is ∙ none_at n i
    by false i = refl
