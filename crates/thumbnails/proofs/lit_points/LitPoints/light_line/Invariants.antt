use Rattle.std.proofs.Common.{◌≡◌, ◌≤◌, ◌+◌, ◌-◌}
use Rattle.thumbnails.specs.LitPoints.{points_in_cells, with_line_from, with_thumb_line}
use Rattle.thumbnails.proofs.lit_points.LitPoints.light_line.Given as goal

-- the points so far and those of the steps that are left are all of them
abbrev pub invariant-loop-step : goal.invariant-loop-step
invariant-loop-step l = record {
  most : l.step ≤ l.steps + 1;
  lit : with_line_from (points_in_cells l.self) l.a l.b l.step (l.steps + 1 - l.step)
      ≡ with_thumb_line (points_in_cells l.fn.self) l.a l.b;
}

abbrev pub decreases-loop-step : goal.decreases-loop-step
decreases-loop-step l = l.steps + 1 - l.step
