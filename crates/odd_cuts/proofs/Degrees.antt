-- A set has an odd number of odd junctions exactly where an odd number of edges crosses its boundary.
use Rattle.std.proofs.Common.{◌≡◌, ◌≤◌, ◌<◌, ℕ, zero, suc, ◌+◌, ◌%◌, ◌==◌, Bool, true, false, cond, not, ◌&&◌, nat_lt, List, [], ◌∷◌, filter, arith, refl, sym, ◌∙◌, ap}
use Rattle.std.proofs.lemmas.List.Recursion.{is_count_by}
use Rattle.odd_cuts.proofs.Names.{nat_tests, and_parts, count_by, Edge, ends_below, one_if, degree, degrees_from, is_odd, edge_sum, range_with_len}
use Rattle.odd_cuts.proofs.Crossing.{crossing, inside}

-- the odd junctions in a set, from a number on
abbrev pub odd_in : (ℕ → Bool) → ℕ → List ℕ → ℕ
odd_in s at [] = 0
odd_in s at (d ∷ ds) = one_if (s at && is_odd d) + odd_in s (at + 1) ds

-- how many of the numbers are in a set
abbrev pub counted : (ℕ → Bool) → List ℕ → ℕ
counted s [] = 0
counted s (x ∷ xs) = cond (s x) (1 + counted s xs) (counted s xs)

pub count_is : (test : ℕ → Bool) (xs : List ℕ) → counted test xs ≡ count_by test xs
count_is test xs = is_count_by (counted test) test refl (λ x. λ xs. refl) xs

counted_from : (s : ℕ → Bool) (es : List Edge) (at n : ℕ)
    → counted s (filter (λ j. is_odd (degree es j)) (range_with_len at n)) ≡ odd_in s at (degrees_from es at n)
counted_from s es at zero = refl
counted_from s es at (suc n) = grind (arith, nat_tests, counted_from s es (at + 1) n)

-- they are those of the junctions that pass the test of their degrees
pub odd_counted : (s : ℕ → Bool) (es : List Edge) (at n : ℕ)
    → count_by s (filter (λ j. is_odd (degree es j)) (range_with_len at n)) ≡ odd_in s at (degrees_from es at n)
odd_counted s es at n =
    sym (count_is s (filter (λ j. is_odd (degree es j)) (range_with_len at n))) ∙ counted_from s es at n

-- the degrees of the junctions in a set, added up
abbrev held : (ℕ → Bool) → ℕ → List ℕ → ℕ
held s at [] = 0
held s at (d ∷ ds) = cond (s at) d 0 + held s (at + 1) ds

odd_bit : (t : Bool) (d : ℕ) → one_if (t && is_odd d) % 2 ≡ cond t d 0 % 2
odd_bit true d = grind (arith, nat_tests)
odd_bit false d = refl

odd_is_held : (s : ℕ → Bool) (at : ℕ) (ds : List ℕ) → odd_in s at ds % 2 ≡ held s at ds % 2
odd_is_held s at [] = refl
odd_is_held s at (d ∷ ds) =
    grind (arith, nat_tests, (odd_bit (s at) d), (odd_is_held s (at + 1) ds))

-- a junction, where it is in the set and in the range
abbrev one : (ℕ → Bool) → ℕ → ℕ → ℕ → ℕ
one s j at zero = 0
one s j at (suc n) = cond (s at) (one_if (j == at)) 0 + one s j (at + 1) n

held_none : (s : ℕ → Bool) (at n : ℕ) → held s at (degrees_from [] at n) ≡ 0
held_none s at zero = refl
held_none s at (suc n) = grind (arith, nat_tests, held_none s (at + 1) n)

held_edge : (s : ℕ → Bool) (e : Edge) (es : List Edge) (at n : ℕ)
    → held s at (degrees_from (e ∷ es) at n) ≡ (one s e.a at n + one s e.b at n) + held s at (degrees_from es at n)
held_edge s e es at zero = refl
held_edge s e es at (suc n) = grind (arith, nat_tests, held_edge s e es (at + 1) n)

before : (s : ℕ → Bool) (j at n : ℕ) → j < at → one s j at n ≡ 0
before s j at zero less = refl
before s j at (suc n) less =
    let other : (j == at) ≡ false = grind (arith, nat_tests, less) in
    rw (other, before s j (at + 1) n (omega arith)) (grind (arith, nat_tests))

met : (s : ℕ → Bool) (j at n : ℕ) → at ≤ j → j < at + n → one s j at n ≡ inside s j
met s j at zero from to = absurd (omega arith)
met s j at (suc n) from to = by_test (j == at) refl (λ (h : at + 1 ≤ j). met s j (at + 1) n h (omega arith))
  where
    same : (m n : ℕ) → (m == n) ≡ true → m ≡ n
    same m n is = grind (arith, nat_tests)

    next : (m n : ℕ) → (m == n) ≡ false → n ≤ m → n + 1 ≤ m
    next m n is h = grind (arith, nat_tests)

    here : (t : Bool) → cond t 1 0 + 0 ≡ one_if t
    here true = refl
    here false = refl

    there : (t : Bool) (k : ℕ) → cond t 0 0 + k ≡ k
    there true k = omega arith
    there false k = omega arith

    by_test : (u : Bool) → (j == at) ≡ u → (at + 1 ≤ j → one s j (at + 1) n ≡ inside s j)
        → cond (s at) (one_if (j == at)) 0 + one s j (at + 1) n ≡ inside s j
    by_test true is rest =
        rw (is, before s j (at + 1) n (omega (arith, same j at is))) (here (s at) ∙ ap (λ (k : ℕ). inside s k) (sym (same j at is)))
    by_test false is rest = rw (is, rest (next j at is from)) (there (s at) (inside s j))

abbrev both : (ℕ → Bool) → Edge → ℕ
both s e = inside s e.a + inside s e.b

held_edges : (s : ℕ → Bool) (es : List Edge) (n : ℕ) → ends_below n es ≡ true → held s 0 (degrees_from es 0 n) ≡ edge_sum (both s) es
held_edges s [] n within = held_none s 0 n
held_edges s (e ∷ es) n within =
    let parts = and_parts (nat_lt e.a n && nat_lt e.b n) (ends_below n es) within in
    let ends = and_parts (nat_lt e.a n) (nat_lt e.b n) parts.0 in
    rw (
      held_edge s e es 0 n,
      met s e.a 0 n (omega arith) (grind (arith, nat_tests, ends.0)),
      met s e.b 0 n (omega arith)
          (grind (arith, nat_tests, ends.1)),
      held_edges s es n parts.1,
    ) refl

both_crosses : (a b : Bool) → (one_if a + one_if b) % 2 ≡ one_if (cond a (not b) b) % 2
both_crosses true true = refl
both_crosses true false = refl
both_crosses false true = refl
both_crosses false false = refl

crossed : (s : ℕ → Bool) (es : List Edge) → edge_sum (both s) es % 2 ≡ edge_sum (crossing s) es % 2
crossed s [] = refl
crossed s (e ∷ es) = grind (arith, nat_tests, (crossing s e), (both_crosses (s e.a) (s e.b)), (crossed s es))

-- both numbers are even, or both are odd
pub odd_crossing : (s : ℕ → Bool) (es : List Edge) (n : ℕ) → ends_below n es ≡ true
    → odd_in s 0 (degrees_from es 0 n) % 2 ≡ edge_sum (crossing s) es % 2
odd_crossing s es n within = grind (arith, nat_tests, odd_is_held, held_edges, crossed)
