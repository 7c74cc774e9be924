use Rattle.std.proofs.Common.{◌≡◌, ◌+◌, ◌++◌, ◌*◌, ◌-◌}
use Rattle.drawing_picture.proofs.Names.{flat_map, range_with_len}
use Rattle.drawing_picture.specs.Grids.{grid_line}
use Rattle.drawing_picture.proofs.grid.put_grid_lines.Given as goal

-- the lines so far, and those that are left
abbrev pub invariant-loop-k : goal.invariant-loop-k
invariant-loop-k l =
    l.text ++ flat_map (λ k. grid_line l.axis l.g (l.from + k * l.g.step)) (range_with_len l.k (l.count - l.k))
    ≡ l.fn.text ++ flat_map (λ k. grid_line l.axis l.g (l.from + k * l.g.step)) (range_with_len 0 l.count)
