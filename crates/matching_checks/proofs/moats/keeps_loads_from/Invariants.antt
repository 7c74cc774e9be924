use Rattle.std.proofs.Common.{ℕ, ◌*◌, ◌<◌, ◌≤◌}
use Rattle.blossom_match.specs.Matchings.{moat_load}
use Rattle.odd_sets.specs.Tables.{entry}
use Rattle.matching_checks.proofs.moats.keeps_loads_from.Given as goal

-- no load with the places so far is too much
abbrev pub invariant-loop-b : goal.invariant-loop-b
invariant-loop-b l = (z : ℕ) → z < l.b → moat_load l.moats l.a z ≤ 2 * entry l.t l.a z
