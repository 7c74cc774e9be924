-- Lines that rise and their edges, and walks that go on.
use Rattle.std.proofs.Common.{◌≡◌, ◌≤◌, ◌<◌, ℕ, suc, ◌+◌, ◌==◌, Bool, true, false, ◌||◌, List, [], ◌∷◌, ◌++◌, length, get_or, arith, refl}
use Rattle.euler_tour.proofs.Names.{nat_tests, Edge, Pass, one_if, edge_of, edge_value, pass_sum, passes, covers, is_line_passed}

-- how often a walk with one more pass passes a line
pub passes_push : (n : ℕ) (xs : List Pass) (p : Pass) → passes n (xs ++ p ∷ []) ≡ passes n xs + one_if (p.line == n)
passes_push n [] p = omega arith
passes_push n (x ∷ xs) p = grind (arith, nat_tests, passes_push n xs p)

-- and the sum over it
pub pass_sum_push : (lines : List ℕ) (edges : List Edge) (f : Edge → ℕ) (xs : List Pass) (p : Pass)
    → pass_sum lines edges f (xs ++ p ∷ []) ≡ pass_sum lines edges f xs + edge_value f (edge_of lines edges p.line)
pass_sum_push lines edges f [] p = omega arith
pass_sum_push lines edges f (x ∷ xs) p = grind (arith, nat_tests, pass_sum_push lines edges f xs p)

-- a line that is passed once or more is passed
pub is_passed : (n : ℕ) (walk : List Pass) → 1 ≤ passes n walk → is_line_passed n walk ≡ true
is_passed n [] least = absurd (omega arith)
is_passed n (p ∷ walk) least = by_test (p.line == n) least (λ h. is_passed n walk h)
  where
    by_test : (t : Bool) → 1 ≤ one_if t + passes n walk → (1 ≤ passes n walk → is_line_passed n walk ≡ true)
        → (t || is_line_passed n walk) ≡ true
    by_test true least rest = refl
    by_test false least rest = rest (omega arith)

-- a walk that passes the line at each index covers all lines
pub all_covered : (lines : List ℕ) (walk : List Pass) → ((k : ℕ) → k < length lines → 1 ≤ passes (get_or lines k 0) walk)
    → covers lines walk ≡ true
all_covered [] walk each = refl
all_covered (n ∷ lines) walk each =
    rw (is_passed n walk (each 0 (omega arith))) (all_covered lines walk (λ k. λ below. each (suc k) (omega arith)))
