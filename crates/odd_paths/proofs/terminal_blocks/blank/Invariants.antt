use Rattle.std.proofs.Common.{◌≡◌, replicate}
use Rattle.odd_paths.proofs.Names.{LANES, NO_WALK}
use Rattle.odd_paths.proofs.terminal_blocks.blank.Given as goal

-- the lanes so far
abbrev pub invariant-loop-lane : goal.invariant-loop-lane
invariant-loop-lane l = l.table.items ≡ replicate l._lane (replicate LANES NO_WALK)
