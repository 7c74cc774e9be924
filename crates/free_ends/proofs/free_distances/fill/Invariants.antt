use Rattle.std.proofs.Common.{◌<◌, ◌≤◌}
use Rattle.free_ends.proofs.Names.{HasFilledRow}
use Rattle.free_ends.proofs.free_distances.fill.Given as goal

abbrev pub invariant-loop-b : goal.invariant-loop-b
invariant-loop-b l = record {
  from : l.a < l.b;
  to : l.b ≤ l.fn.table.places;
  filled : HasFilledRow l.rows l.a l.b l.fn.table l.table;
}
