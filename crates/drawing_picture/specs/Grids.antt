-- The grid below a drawing: lines at whole multiples of its step, from edge to edge, each with its
-- coordinate at the margin. Coordinates of lines count from the least one that a needle reaches, in
-- tenths of a millimetre.
use Rattle.std.specs.Prelude.{ℕ, pos, ◌+◌, ◌*◌, ◌-◌, ◌/◌, ◌%◌, ◌-ℤ◌, nat_le, List, [], ◌∷◌, ◌++◌, codes, if◌then◌else◌}
use Rattle.std.specs.Fmt.{decimal, signed_decimal}
use Rattle.std.specs.List.{flat_map, range_with_len}
use Rattle.design_model.specs.declared.bounds.Extent.{Extent}
use Rattle.design_picture.specs.Captions.{group_end}
use Rattle.drawing_picture.specs.declared.grid.Axis.{Axis}
use Rattle.drawing_picture.specs.declared.grid.Axis.TheVariants as axis
use Rattle.drawing_picture.specs.declared.grid.Grid.{Grid}
use Rattle.drawing_review.specs.Frames.{grid_coordinate}
use Rattle.picture_parts.specs.Parts.{ended, filled}

-- The step of the grid by the width and the height of a drawing together: 10 mm, or more where
-- there were 40 lines else.
abbrev pub grid_step : ℕ → ℕ
grid_step reach = if nat_le reach 3400 then 100
    else (if nat_le reach 17000 then 500 else (if nat_le reach 34000 then 1000 else 5000))

-- The greatest multiple of a step that isn't above a number.
abbrev pub rounded_down_to : ℕ → ℕ → ℕ
rounded_down_to step n = n - n % step

-- The least multiple of a step that isn't below a number.
abbrev pub rounded_up_to : ℕ → ℕ → ℕ
rounded_up_to step n = rounded_down_to step (n + (step - 1))

-- The grid of a step whose edges enclose coordinates.
abbrev pub grid_enclosing : ℕ → (left right top bottom : ℕ) → Grid
grid_enclosing step left right top bottom = record {
  step = step;
  left = rounded_down_to step left;
  right = rounded_up_to step right;
  top = rounded_down_to step top;
  bottom = rounded_up_to step bottom;
}

-- The grid of coordinates.
abbrev pub grid_between : (left right top bottom : ℕ) → Grid
grid_between left right top bottom =
    grid_enclosing (grid_step ((right - left) + (bottom - top))) left right top bottom

-- The grid of an extent.
abbrev pub grid_around_extent : Extent → Grid
grid_around_extent extent = grid_between (grid_coordinate extent.min.x)
    (grid_coordinate extent.max.x)
    (grid_coordinate extent.min.y) (grid_coordinate extent.max.y)

-- The number of lines of a step from one coordinate to another.
abbrev pub line_count_of : (step from to : ℕ) → ℕ
line_count_of step from to = (to - from) / step + 1

-- The coordinate of a line, as a drawing has it.
abbrev pub coordinate_text : ℕ → List ℕ
coordinate_text at = signed_decimal (pos at -ℤ pos 30000)

-- A column, and above it the beginning of its coordinate.
unfoldable pub column_start : (at top bottom : ℕ) → List ℕ
column_start at top bottom = filled
    (codes "<path d='M@,@V@'/><text class='small' style='fill:#6b6454'"
    ++ codes " text-anchor='middle' x='@' y='@' dy='-20'>")
    (decimal at ∷ decimal top ∷ decimal bottom ∷ decimal at ∷ decimal top ∷ [])

-- A row, and left of it the beginning of its coordinate.
unfoldable pub row_start : (at left right : ℕ) → List ℕ
row_start at left right = filled (codes "<path d='M@,@H@'/><text class='small' style='fill:#6b6454'"
    ++ codes " x='@' y='@' dx='-140' dy='6'>")
    (decimal left ∷ decimal at ∷ decimal right ∷ decimal left ∷ decimal at ∷ [])

-- The end of a coordinate.
unfoldable pub coordinate_end : List ℕ
coordinate_end = filled (ended (codes "</text>")) []

-- A line of a grid: a column or a row.
abbrev pub grid_line : Axis → Grid → ℕ → List ℕ
grid_line axis.Column g at =
    column_start at g.top g.bottom ++ (coordinate_text at ++ coordinate_end)
grid_line axis.Row g at = row_start at g.left g.right ++ (coordinate_text at ++ coordinate_end)

-- A number of lines of a grid, at multiples of its step from the given coordinate.
abbrev pub grid_lines : Axis → Grid → (from count : ℕ) → List ℕ
grid_lines axis g from count =
    flat_map (λ k. grid_line axis g (from + k * g.step)) (range_with_len 0 count)

-- The beginning of the grid.
unfoldable pub grid_start : List ℕ
grid_start = filled (codes "<g transform='translate(-30000,-30000)' fill='none' stroke='#a79e88'"
    ++ ended (codes " stroke-width='1'>")) []

-- The grid with its columns, its rows and their coordinates.
abbrev pub grid_text : Grid → List ℕ
grid_text g = grid_start ++ (grid_lines axis.Column g g.left (line_count_of g.step g.left g.right)
    ++ (grid_lines axis.Row g g.top (line_count_of g.step g.top g.bottom)
    ++ group_end))
