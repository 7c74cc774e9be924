use Rattle.std.proofs.Common.{◌≡◌, ◌≤◌, ◌-◌, replicate}
use Rattle.route_verdict.proofs.Names.{Stop, with_commands}
use Rattle.route_verdict.proofs.sewing.add_stops.Given as goal

-- the stops so far, which are no more than required
abbrev pub invariant-loop : goal.invariant-loop
invariant-loop l = record {
  stops : l.design ≡ with_commands l.fn.design (replicate (l.counter - l.before) Stop);
  most : l.counter - l.before ≤ l.block - l.before;
}
