use Rattle.std.proofs.Common.{ℕ, ◌+◌, ◌<◌, ◌≤◌}
use Rattle.odd_sets.specs.Tables.{entry}
use Rattle.matching_checks.proofs.triangles.keeps_triangles.Given as goal

-- no shorter way so far
abbrev pub invariant-loop-a : goal.invariant-loop-a
invariant-loop-a l = (z : ℕ) → z < l.a → (y : ℕ) → y < l.t.places → (x : ℕ) → x < l.t.places → entry l.t z x ≤ entry l.t z y + entry l.t y x
