use Rattle.std.proofs.Common.{◌≡◌, take}
use Rattle.odd_paths.proofs.Names.{lane_column}
use Rattle.odd_paths.proofs.terminal_blocks.column.Given as goal

-- the numbers of the lanes so far
abbrev pub invariant-loop-lane : goal.invariant-loop-lane
invariant-loop-lane l = l.row.items ≡ lane_column l.i (take l.lane-index l.table)
