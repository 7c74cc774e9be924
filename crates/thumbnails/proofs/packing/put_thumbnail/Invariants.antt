use Rattle.std.proofs.Common.{◌≡◌, ◌≤◌, ◌-◌, ◌++◌}
use Rattle.thumbnails.specs.declared.packing.TheConstants.{ROWS}
use Rattle.thumbnails.specs.LitPoints.{points_in_cells}
use Rattle.thumbnails.specs.Packings.{rows_from, thumb_bytes}
use Rattle.thumbnails.proofs.packing.put_thumbnail.Given as goal

-- the rows so far and those that are left are all of them
abbrev pub invariant-loop-row : goal.invariant-loop-row
invariant-loop-row l = record {
  most : l.row ≤ ROWS;
  rows : l.out ++ rows_from (points_in_cells l.points) l.row (ROWS - l.row)
      ≡ l.fn.out ++ thumb_bytes (points_in_cells l.points);
}

abbrev pub decreases-loop-row : goal.decreases-loop-row
decreases-loop-row l = ROWS - l.row
