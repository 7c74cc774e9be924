use Rattle.std.proofs.Common.{◌≡◌, ◌++◌, flat_map}
use Rattle.sample_drawings.proofs.Names.{range_with_len, lines_at_cell}
use Rattle.sample_drawings.proofs.grid_lines.push_row.Given as goal

-- the lines of the columns so far
abbrev pub invariant-loop-i : goal.invariant-loop-i
invariant-loop-i l = l.lines
    ≡ l.fn.lines ++ flat_map (λ i. lines_at_cell l.grid.number l.course i l.j) (range_with_len 0 l.i)
