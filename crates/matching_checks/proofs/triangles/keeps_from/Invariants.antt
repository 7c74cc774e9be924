use Rattle.std.proofs.Common.{ℕ, ◌+◌, ◌<◌, ◌≤◌}
use Rattle.odd_sets.specs.Tables.{entry}
use Rattle.matching_checks.proofs.triangles.keeps_from.Given as goal

-- no shorter way so far
abbrev pub invariant-loop-b : goal.invariant-loop-b
invariant-loop-b l = (y : ℕ) → y < l.b → (x : ℕ) → x < l.t.places → entry l.t l.a x ≤ entry l.t l.a y + entry l.t y x
