use Rattle.std.proofs.Common.{◌≡◌, ◌≤◌, ◌+◌, ◌-◌, ◌*◌, ◌^◌, length, Some}
use Rattle.odd_cuts.proofs.Names.{faults_from, edge_cost, pass_sum, walk_end_from}
use Rattle.odd_cuts.proofs.walk_check.follow.Given as goal

-- the passes so far have no fault, and the remaining ones start where they lead
abbrev pub invariant-loop-rest : goal.invariant-loop-rest
invariant-loop-rest l = record {
  count : l.number + length l.rest ≡ length l.walk + 1;
  few : l.cost + (2 ^ 32 - 1) ≤ (2 ^ 32 - 1) * l.number;
  faults : faults_from l.p.lines l.p.edges l.number l.at l.rest ≡ faults_from l.p.lines l.p.edges 1 l.start l.walk;
  leads : walk_end_from l.p.lines l.p.edges (Some l.at) l.rest ≡ walk_end_from l.p.lines l.p.edges (Some l.start) l.walk;
  costs : l.cost + pass_sum l.p.lines l.p.edges edge_cost l.rest ≡ pass_sum l.p.lines l.p.edges edge_cost l.walk;
}

abbrev pub decreases-loop-rest : goal.decreases-loop-rest
decreases-loop-rest l = length l.rest
