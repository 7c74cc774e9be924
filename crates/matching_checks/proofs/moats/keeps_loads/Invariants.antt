use Rattle.std.proofs.Common.{ℕ, ◌*◌, ◌<◌, ◌≤◌}
use Rattle.blossom_match.specs.Matchings.{moat_load}
use Rattle.odd_sets.specs.Tables.{entry}
use Rattle.matching_checks.proofs.moats.keeps_loads.Given as goal

-- no load of the places so far is too much
abbrev pub invariant-loop-a : goal.invariant-loop-a
invariant-loop-a l = (z : ℕ) → z < l.a → (b : ℕ) → b < l.t.places → moat_load l.moats z b ≤ 2 * entry l.t z b
