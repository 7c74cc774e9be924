use Rattle.std.proofs.Common.{ℕ, ◌<◌, length}
use Rattle.route_tests.specs.MoatLoads.{KeepsLoad}
use Rattle.route_tests.proofs.moat_checks.have_small_loads.Given as goal

-- no load so far is too much
abbrev pub invariant-loop-t : goal.invariant-loop-t
invariant-loop-t l = (x : ℕ) → x < l.t → (u : ℕ) → u < length l.terminals → KeepsLoad l.rows l.terminals l.moats x u
