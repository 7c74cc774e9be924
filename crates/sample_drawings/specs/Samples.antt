-- The sample drawing of a number, in whole tenths of a millimetre: a grid of junctions and the
-- lines between them. Each junction is moved at random by at most 49 on each axis. Columns and rows
-- count from 0. Own rules.
use Rattle.std.specs.Prelude.{ℕ, Bool, pos, ◌+◌, ◌*◌, ◌%◌, ◌==◌, ◌||◌, List, [], ◌∷◌, ◌++◌, map, codes, flat_map, if◌then◌else◌}
use Rattle.std.specs.List.{range_with_len}
use Rattle.design_model.specs.declared.point.Point.{Point}
use Rattle.line_sections.specs.Lines.{LineValue}
use Rattle.line_graph.specs.Drawings.{DrawingValue}
use Rattle.sample_drawings.specs.declared.segment.Segment.{Segment}
use Rattle.sample_drawings.specs.Draws.{drawn_number}

-- The number of cells in each row and in each column.
abbrev pub cells_per_side : ℕ → ℕ
cells_per_side number = 1 + number % 15

-- The number of junctions in each row and in each column.
abbrev pub junctions_per_side : ℕ → ℕ
junctions_per_side number = cells_per_side number + 1

-- The index of column i in row j in a table that is stored row by row.
abbrev pub row_major_index : ℕ → ℕ → ℕ → ℕ
row_major_index columns i j = j * columns + i

-- The junction of column i in row j. Each junction takes two draws, in the order of the table.
abbrev pub grid_junction : ℕ → ℕ → ℕ → Point
grid_junction number i j =
    let draws = 2 * row_major_index (junctions_per_side number) i j in record {
      x = pos (100 * i + drawn_number number (draws + 1) 50);
      y = pos (100 * j + drawn_number number (draws + 2) 50);
    }

-- The number of draws that all junctions take.
abbrev pub junction_draws : ℕ → ℕ
junction_draws number = 2 * (junctions_per_side number * junctions_per_side number)

-- The kind of the cell of column i in row j. Each cell takes one draw, after those of all
-- junctions.
abbrev pub cell_kind : ℕ → ℕ → ℕ → ℕ
cell_kind number i j =
    drawn_number number (junction_draws number + row_major_index (cells_per_side number) i j + 1) 4

-- The segment from the junction of column i in row j to that of column to_i in row to_j.
abbrev pub segment_between : ℕ → ℕ → ℕ → ℕ → ℕ → Segment
segment_between number i j to_i to_j = record {
  from = grid_junction number i j;
  to = grid_junction
      number to_i to_j;
}

-- The line from a junction to the next one in its row.
abbrev pub line_across : ℕ → ℕ → ℕ → List Segment
line_across number i j = segment_between number i j (i + 1) j ∷ []

-- The line from a junction to the one below it.
abbrev pub line_down : ℕ → ℕ → ℕ → List Segment
line_down number i j = segment_between number i j i (j + 1) ∷ []

-- Cells of the kinds 1 and 3 have a diagonal from the upper left to the lower right.
abbrev pub falls_right : ℕ → Bool
falls_right kind = kind == 1 || kind == 3

-- Cells of the kinds 2 and 3 have a diagonal from the upper right to the lower left.
abbrev pub falls_left : ℕ → Bool
falls_left kind = kind == 2 || kind == 3

-- A list with the given segment, if the condition holds.
abbrev pub segment_if : Bool → Segment → List Segment
segment_if there line = if there then line ∷ [] else []

-- The diagonals of a cell.
abbrev pub diagonals : ℕ → ℕ → ℕ → List Segment
diagonals number i j =
    segment_if (falls_right (cell_kind number i j)) (segment_between number i j (i + 1) (j + 1))
    ++ segment_if (falls_left (cell_kind number i j)) (segment_between number (i + 1) j i (j + 1))

-- The concatenated lists for each column of each row, row by row.
abbrev pub row_by_row : {T : Type 0} → ℕ → ℕ → (ℕ → ℕ → List T) → List T
row_by_row columns rows make =
    flat_map (λ j. flat_map (λ i. make i j) (range_with_len 0 columns)) (range_with_len 0 rows)

-- The segments of a sample drawing: the lines across, the lines down, and the diagonals.
abbrev pub sample_segments : ℕ → List Segment
sample_segments number =
    row_by_row (cells_per_side number) (junctions_per_side number) (line_across number)
    ++ row_by_row (junctions_per_side number) (cells_per_side number) (line_down number)
    ++ row_by_row (cells_per_side number) (cells_per_side number) (diagonals number)

-- The line along a segment, in the first block.
abbrev pub line_along : Segment → LineValue
line_along s = record { block = 0; points = s.from ∷ s.to ∷ [] }

-- The sample drawing of a number, without starts and ends.
abbrev pub sample_drawing_of : ℕ → DrawingValue
sample_drawing_of number = record {
  label = codes "sample";
  step = 25;
  threads = 1 ∷ [];
  lines = map line_along (sample_segments number);
  starts = [];
  ends = [];
}
