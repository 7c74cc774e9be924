use Rattle.std.proofs.Common.{◌≡◌, ◌++◌, true, length}
use Rattle.euler_tour.proofs.Names.{all_below, pass_counts}
use Rattle.euler_tour.proofs.remaining_lines.all_times.Given as goal

-- the times so far and those of the copies that are left; each of these fits
abbrev pub invariant-loop-rest : goal.invariant-loop-rest
invariant-loop-rest l = record {
  all : l.times.items ++ pass_counts l.rest ≡ pass_counts l.copies;
  fit : all_below 4294967295 l.rest ≡ true;
}

abbrev pub decreases-loop-rest : goal.decreases-loop-rest
decreases-loop-rest l = length l.rest
