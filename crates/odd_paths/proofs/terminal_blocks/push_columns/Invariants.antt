use Rattle.std.proofs.Common.{◌≡◌, ◌+◌, ◌++◌, length}
use Rattle.odd_paths.proofs.Names.{terminal_columns, lists_of}
use Rattle.odd_paths.proofs.terminal_blocks.push_columns.Given as goal

-- the rows so far and the columns that are left are all
abbrev pub invariant-loop-rest : goal.invariant-loop-rest
invariant-loop-rest l = record {
  count : l.i + length l.rest ≡ length l.terminals;
  rows : lists_of l.rows.items ++ terminal_columns l.table l.i l.rest
      ≡ lists_of l.fn.rows.items ++ terminal_columns l.table 0 l.terminals;
}

abbrev pub decreases-loop-rest : goal.decreases-loop-rest
decreases-loop-rest l = length l.rest
