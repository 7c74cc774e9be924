use Rattle.std.proofs.Common.{◌≡◌, ◌≤◌, ◌+◌, ◌-◌, ◌*◌, ◌^◌, length}
use Rattle.odd_cuts.proofs.Names.{total_weight}
use Rattle.odd_cuts.proofs.LoadLemmas.{total_with}
use Rattle.odd_cuts.proofs.cut_check.total_of.Given as goal

-- the sum so far with the weights that are left is that of all
abbrev pub invariant-loop-rest : goal.invariant-loop-rest
invariant-loop-rest l = record {
  few : l.sum + (2 ^ 32 - 1) * length l.rest ≤ (2 ^ 32 - 1) * length l.cuts;
  sum : total_with l.sum l.rest ≡ total_weight l.cuts;
}

abbrev pub decreases-loop-rest : goal.decreases-loop-rest
decreases-loop-rest l = length l.rest
