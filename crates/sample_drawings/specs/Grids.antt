-- The results of the draws, in the order in which they are stored. No public clause cites this
-- file.
use Rattle.std.specs.Prelude.{ℕ, pos, ◌+◌, ◌*◌, ◌/◌, ◌%◌, List, map}
use Rattle.std.specs.List.{range_with_len}
use Rattle.design_model.specs.declared.point.Point.{Point}
use Rattle.sample_drawings.specs.Draws.{next_state}
use Rattle.sample_drawings.specs.Samples.{cells_per_side, cell_kind, grid_junction, junctions_per_side}

-- A list with the value for each column and row, row by row, up to the given number of items.
abbrev pub by_index : {T : Type 0} → ℕ → (ℕ → ℕ → T) → ℕ → List T
by_index columns make count = map (λ n. make (n % columns) (n / columns)) (range_with_len 0 count)

-- A list with the value for each column and row of a square grid, row by row.
abbrev pub in_square : {T : Type 0} → ℕ → (ℕ → ℕ → T) → List T
in_square columns make = by_index columns make (columns * columns)

-- The junctions of a grid, row by row.
abbrev pub grid_junctions : ℕ → List Point
grid_junctions number = in_square (junctions_per_side number) (grid_junction number)

-- The kinds of the cells of a grid, row by row.
abbrev pub kinds_of : ℕ → List ℕ
kinds_of number = in_square (cells_per_side number) (cell_kind number)

-- The junction at a column and a row, drawn from the given state of the generator.
abbrev pub moved_junction : ℕ → ℕ → ℕ → Point
moved_junction state i j = record {
  x = pos (100 * i + next_state state % 50);
  y = pos (100 * j + next_state (next_state state) % 50);
}
