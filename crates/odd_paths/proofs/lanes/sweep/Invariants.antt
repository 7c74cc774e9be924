use Rattle.std.proofs.Common.{◌≡◌, ℕ, ◌+◌, ◌<◌, ◌≤◌, false, length}
use Rattle.odd_paths.proofs.Names.{MAX_COST, one_if, edge_cost, edge_sum, LANES, IsCapped, lane_column, weight, EndsAreBelow, changes, swept}
use Rattle.odd_paths.proofs.lanes.sweep.Given as goal

-- sweeping the remaining edges completes the sweep over all edges
abbrev pub invariant-loop-rest : goal.invariant-loop-rest
invariant-loop-rest l = record {
  ends : EndsAreBelow (length l.table) l.rest;
  cost : edge_sum edge_cost l.rest ≤ MAX_COST;
  capped : IsCapped l.table;
  value : (i : ℕ) → i < LANES → swept (lane_column i l.table) l.rest ≡ swept (lane_column i l.fn.table) l.edges;
  reported : l.changed ≡ false → (i : ℕ) → i < LANES → changes (lane_column i l.table) l.rest ≡ changes (lane_column i l.fn.table) l.edges;
  weight : weight l.table + one_if l.changed ≤ weight l.fn.table;
}

abbrev pub decreases-loop-rest : goal.decreases-loop-rest
decreases-loop-rest l = length l.rest
