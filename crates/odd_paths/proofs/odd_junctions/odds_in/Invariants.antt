use Rattle.std.proofs.Common.{◌≡◌, ◌+◌, ◌++◌, length}
use Rattle.odd_paths.proofs.Names.{odds_from}
use Rattle.odd_paths.proofs.odd_junctions.odds_in.Given as goal

-- the odd junctions so far and those of the degrees that are left are those of all degrees
abbrev pub invariant-loop-rest : goal.invariant-loop-rest
invariant-loop-rest l = record {
  count : l.at + length l.rest ≡ length l.degrees;
  odds : l.odds ++ odds_from l.from l.to l.at l.rest ≡ odds_from l.from l.to 0 l.degrees;
}

abbrev pub decreases-loop-rest : goal.decreases-loop-rest
decreases-loop-rest l = length l.rest
