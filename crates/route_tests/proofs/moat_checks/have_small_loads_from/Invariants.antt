use Rattle.std.proofs.Common.{ℕ, ◌<◌}
use Rattle.route_tests.specs.MoatLoads.{KeepsLoad}
use Rattle.route_tests.proofs.moat_checks.have_small_loads_from.Given as goal

-- no load so far is too much
abbrev pub invariant-loop-u : goal.invariant-loop-u
invariant-loop-u l = (x : ℕ) → x < l.u → KeepsLoad l.rows l.terminals l.moats l.t x
