use Rattle.std.proofs.Common.{◌≡◌, ℕ, ◌<◌, ◌≤◌}
use Rattle.odd_paths.proofs.Names.{slice_index, slice_set, IsCapped, lane_column}
use Rattle.odd_paths.proofs.terminal_blocks.begin.Given as goal

-- the columns so far have begun, the others are as they were
abbrev pub invariant-loop-i : goal.invariant-loop-i
invariant-loop-i l = record {
  begun : (k : ℕ) → k < l.i → lane_column k l.table ≡ slice_set (lane_column k l.fn.table) (slice_index l.terminals k) 0;
  rest : (k : ℕ) → l.i ≤ k → lane_column k l.table ≡ lane_column k l.fn.table;
  capped : IsCapped l.table;
}
