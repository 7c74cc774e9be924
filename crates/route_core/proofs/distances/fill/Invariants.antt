use Rattle.std.proofs.Common.{◌<◌, ◌≤◌, length}
use Rattle.route_core.proofs.Names.{HasFilledEntries}
use Rattle.route_core.proofs.distances.fill.Given as goal

abbrev pub invariant-loop-b : goal.invariant-loop-b
invariant-loop-b l = record {
  from : l.a < l.b;
  to : l.b ≤ length l.terminals;
  filled : HasFilledEntries l.rows l.a l.b l.fn.table l.table;
}
