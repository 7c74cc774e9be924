use Rattle.std.proofs.Common.{◌≡◌, ◌++◌, flat_map}
use Rattle.sample_drawings.proofs.Names.{range_with_len, lines_in_row}
use Rattle.sample_drawings.proofs.grid_lines.push_rows.Given as goal

-- the lines of the rows so far
abbrev pub invariant-loop-j : goal.invariant-loop-j
invariant-loop-j l =
    l.lines ≡ l.fn.lines ++ flat_map (lines_in_row l.grid.number l.course) (range_with_len 0 l.j)
