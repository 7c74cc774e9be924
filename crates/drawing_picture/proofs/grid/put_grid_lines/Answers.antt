use Rattle.std.proofs.Common.{◌+◌, ◌*◌}
use Rattle.drawing_picture.specs.Grids.{grid_line}
use Rattle.drawing_picture.proofs.GridLemmas.{takes_next_line}
use Rattle.drawing_picture.proofs.grid.put_grid_lines.Goals as goal

pub loop-k-preserved : goal.loop-k-preserved
loop-k-preserved c = takes_next_line (λ k. grid_line c.args.axis c.args.g (c.args.from + k * c.args.g.step)) _ _ _ _ _
    c.loop-k-test.true c.loop-k.invariant (rw c.coordinate_of.ensures.value at c.in_ok-put_grid_line.ensures)
