-- Lines that rise and their edges, and how often a walk passes a line in a direction.
use Rattle.std.proofs.Common.{◌≡◌, ◌<◌, ℕ, zero, suc, ◌+◌, ◌==◌, ◌&&◌, Bool, true, false, not, List, [], ◌∷◌, ◌++◌, length, get_or, arith, refl, sym, ◌∙◌}
use Rattle.double_run.proofs.Names.{nat_tests, Edge, Pass, one_if, edge_cost, edge_of, pass_sum, is_strictly_increasing, same_way, directed_passes, eq_self, edge_value, first_less, rest_rises, differs, differs_back, suc_zero}

pub suc_suc : (m n : ℕ) → (suc m == suc n) ≡ (m == n)
suc_suc m n = grind (arith, nat_tests)

-- lines at different indexes differ
pub one_line : (lines : List ℕ) (i k : ℕ) → is_strictly_increasing lines ≡ true → i < length lines → k < length lines
    → (get_or lines i 0 == get_or lines k 0) ≡ (i == k)
one_line [] i k up i_in k_in = absurd (omega arith)
one_line (n ∷ lines) zero zero up i_in k_in = eq_self n
one_line (n ∷ lines) zero (suc k) up i_in k_in = grind (arith, nat_tests, differs, first_less)
one_line (n ∷ lines) (suc i) zero up i_in k_in = grind (arith, nat_tests, differs_back, first_less, suc_zero)
one_line (n ∷ lines) (suc i) (suc k) up i_in k_in =
    one_line lines i k (rest_rises n lines up) (omega arith) (omega arith) ∙ sym (suc_suc i k)

-- one more pass
pub times_push : (n : ℕ) (way : Bool) (xs : List Pass) (p : Pass)
    → directed_passes n way (xs ++ p ∷ []) ≡ directed_passes n way xs + one_if (p.line == n && same_way way p.back)
times_push n way [] p = omega arith
times_push n way (x ∷ xs) p = grind (arith, nat_tests, times_push n way xs p)

pub sum_push : (lines : List ℕ) (edges : List Edge) (xs : List Pass) (p : Pass)
    → pass_sum lines edges edge_cost (xs ++ p ∷ []) ≡ pass_sum lines edges edge_cost xs + edge_value edge_cost (edge_of lines edges p.line)
sum_push lines edges [] p = omega arith
sum_push lines edges (x ∷ xs) p = grind (arith, nat_tests, sum_push lines edges xs p)

-- a pass and the one back along it are one pass in each direction
pub both_ways : (t way back : Bool) → one_if (t && same_way way back) + one_if (t && same_way way (not back)) ≡ one_if t
both_ways false way back = refl
both_ways true true true = refl
both_ways true true false = refl
both_ways true false true = refl
both_ways true false false = refl
