use Rattle.std.proofs.Common.{ℕ, ◌<◌, ◌++◌, List, All, length}
use Rattle.odd_paths.proofs.Names.{lists_of, AreLeastRows}
use Rattle.odd_paths.proofs.least_rows.table_of.Given as goal

-- the rows so far and those of the terminals that are left are all rows
abbrev pub invariant-loop-rest : goal.invariant-loop-rest
invariant-loop-rest l = record {
  there : All (λ t. t < l.n) l.rest;
  rows : (more : List (List ℕ)) → AreLeastRows l.edges l.n l.rest more
      → AreLeastRows l.edges l.n l.terminals (lists_of l.table.items ++ more);
}

abbrev pub decreases-loop-rest : goal.decreases-loop-rest
decreases-loop-rest l = length l.rest
