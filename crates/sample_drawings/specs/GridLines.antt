-- The lines of a sample grid by direction. No public clause cites this file.
use Rattle.std.specs.Prelude.{ℕ, List, flat_map}
use Rattle.std.specs.List.{range_with_len}
use Rattle.sample_drawings.specs.declared.grid_lines.LineDirection.{LineDirection}
use Rattle.sample_drawings.specs.declared.grid_lines.LineDirection.TheVariants as course
use Rattle.sample_drawings.specs.declared.segment.Segment.{Segment}
use Rattle.sample_drawings.specs.Samples.{line_across, cells_per_side, diagonals, line_down, junctions_per_side, row_by_row}

-- The number of columns that have a line in a direction.
abbrev pub column_count : ℕ → LineDirection → ℕ
column_count number course.Across = cells_per_side number
column_count number course.Down = junctions_per_side number
column_count number course.Diagonal = cells_per_side number

-- The number of rows that have a line in a direction.
abbrev pub row_count : ℕ → LineDirection → ℕ
row_count number course.Across = junctions_per_side number
row_count number course.Down = cells_per_side number
row_count number course.Diagonal = cells_per_side number

-- The lines in a direction at a column and a row.
abbrev pub lines_at_cell : ℕ → LineDirection → ℕ → ℕ → List Segment
lines_at_cell number course.Across = line_across number
lines_at_cell number course.Down = line_down number
lines_at_cell number course.Diagonal = diagonals number

-- The lines in a direction in one row.
abbrev pub lines_in_row : ℕ → LineDirection → ℕ → List Segment
lines_in_row number c j = flat_map (λ i. lines_at_cell number c i j)
    (range_with_len 0 (column_count number c))

-- All lines in a direction, row by row.
abbrev pub lines_in_direction : ℕ → LineDirection → List Segment
lines_in_direction number c = row_by_row (column_count number c) (row_count number c)
    (lines_at_cell number c)
