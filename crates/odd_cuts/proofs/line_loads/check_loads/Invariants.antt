use Rattle.std.proofs.Common.{◌≡◌, drop}
use Rattle.odd_cuts.proofs.Names.{table_load_faults}
use Rattle.odd_cuts.proofs.line_loads.check_loads.Given as goal

-- the lines so far carry no more than they may
abbrev pub invariant-loop-at : goal.invariant-loop-at
invariant-loop-at l = table_load_faults (drop l.at l.lines) (drop l.at l.edges) (drop l.at l.loads)
    ≡ table_load_faults l.lines l.edges l.loads
