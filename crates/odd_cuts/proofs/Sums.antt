-- Sums over the lines, each with a number of times, and sums over the passes of a walk.
use Rattle.std.proofs.Common.{◌≡◌, ◌≤◌, ℕ, ◌+◌, ◌-◌, ◌*◌, ◌==◌, Bool, true, false, cond, ◌||◌, nat_lt, List, [], ◌∷◌, length, Some, arith, refl, sym, ◌∙◌, ap}
use Rattle.odd_cuts.proofs.Names.{nat_tests, and_parts, Edge, Pass, one_if, all_greater, covers, edge_of, edge_sum, edge_value, pass_sum, is_line_passed, is_strictly_increasing, passes}

-- each line's number, y times
abbrev pub weigh : List ℕ → List Edge → (ℕ → ℕ) → (Edge → ℕ) → ℕ
weigh [] es y f = 0
weigh (n ∷ ns) [] y f = 0
weigh (n ∷ ns) (e ∷ es) y f = y n * f e + weigh ns es y f

abbrev never : ℕ → ℕ
never n = 0

abbrev this : ℕ → ℕ → ℕ
this line n = one_if (line == n)

abbrev pub often : List Pass → ℕ → ℕ
often ps n = passes n ps

abbrev pub more : List Pass → ℕ → ℕ
more ps n = passes n ps - 1

nothing : (k : ℕ) → 0 * k + 0 ≡ 0
nothing k = omega arith

weigh_never : (ns : List ℕ) (es : List Edge) (f : Edge → ℕ) → weigh ns es never f ≡ 0
weigh_never [] es f = refl
weigh_never (n ∷ ns) [] f = refl
weigh_never (n ∷ ns) (e ∷ es) f = rw (weigh_never ns es f) (nothing (f e))

weigh_step : (ns : List ℕ) (es : List Edge) (p : Pass) (ps : List Pass) (f : Edge → ℕ)
    → weigh ns es (often (p ∷ ps)) f ≡ weigh ns es (this p.line) f + weigh ns es (often ps) f
weigh_step [] es p ps f = refl
weigh_step (n ∷ ns) [] p ps f = refl
weigh_step (n ∷ ns) (e ∷ es) p ps f =
    rw (weigh_step ns es p ps f) (grind (arith, nat_tests))

absent : (line low : ℕ) (ns : List ℕ) (es : List Edge) (f : Edge → ℕ) → line ≡ low → all_greater low ns ≡ true
    → weigh ns es (this line) f ≡ 0
absent line low [] es f is up = refl
absent line low (n ∷ ns) [] f is up = refl
absent line low (n ∷ ns) (e ∷ es) f is up =
    let parts = and_parts (nat_lt low n) (all_greater low ns) up in
    let other : (line == n) ≡ false = grind (arith, nat_tests, is, parts.0) in
    rw (other, absent line low ns es f is parts.1) (nothing (f e))

-- the line itself is weighed once
single : (line : ℕ) (ns : List ℕ) (es : List Edge) (f : Edge → ℕ) → is_strictly_increasing ns ≡ true → weigh ns es (this line) f
    ≡ edge_value f (edge_of ns es line)
single line [] es f up = refl
single line (n ∷ ns) [] f up = refl
single line (n ∷ ns) (e ∷ es) f up = by_test (line == n) refl (and_parts (all_greater n ns) (is_strictly_increasing ns) up).0
    (single line ns es f (and_parts (all_greater n ns) (is_strictly_increasing ns) up).1)
  where
    same : (line n : ℕ) → (line == n) ≡ true → line ≡ n
    same line n is = grind (arith, nat_tests)

    once : (k : ℕ) → 1 * k + 0 ≡ k
    once k = omega arith

    none : (k v : ℕ) → 0 * k + v ≡ v
    none k v = omega arith

    by_test : (t : Bool) → (line == n) ≡ t → all_greater n ns ≡ true → weigh ns es (this line) f ≡ edge_value f (edge_of ns es line)
        → one_if (line == n) * f e + weigh ns es (this line) f ≡ edge_value f (cond (line == n) (Some e) (edge_of ns es line))
    by_test true is up rest = rw (is, absent line n ns es f (same line n is) up) (once (f e))
    by_test false is up rest = rw (is, rest) (none (f e) _)

-- a sum over the passes is a sum over the lines
pub exchange : (ns : List ℕ) (es : List Edge) (f : Edge → ℕ) (ps : List Pass) → is_strictly_increasing ns ≡ true → pass_sum ns es f ps
    ≡ weigh ns es (often ps) f
exchange ns es f [] up = sym (weigh_never ns es f)
exchange ns es f (p ∷ ps) up = rw (weigh_step ns es p ps f, single p.line ns es f up, exchange ns es f ps up) refl

least : (n : ℕ) (ps : List Pass) → is_line_passed n ps ≡ true → 1 ≤ passes n ps
least n [] is = absurd (cc)
least n (p ∷ ps) is = by_test (p.line == n) is (λ h. least n ps h)
  where
    by_test : (t : Bool) → (t || is_line_passed n ps) ≡ true → (is_line_passed n ps ≡ true → 1 ≤ passes n ps) → 1 ≤ one_if t + passes n ps
    by_test true is rest = omega arith
    by_test false is rest = let more : 1 ≤ passes n ps = rest is in omega arith

-- each line once, and what is more
pub once_and_more : (ns : List ℕ) (es : List Edge) (f : Edge → ℕ) (ps : List Pass) → length ns ≡ length es → covers ns ps ≡ true
    → weigh ns es (often ps) f ≡ edge_sum f es + weigh ns es (more ps) f
once_and_more [] [] f ps same all = refl
once_and_more [] (e ∷ es) f ps same all = absurd (omega arith)
once_and_more (n ∷ ns) [] f ps same all = absurd (omega arith)
once_and_more (n ∷ ns) (e ∷ es) f ps same all =
    let parts = and_parts (is_line_passed n ps) (covers ns ps) all in
    rw (once_and_more ns es f ps (omega arith) parts.1) (split (passes n ps) (f e) (edge_sum f es) (weigh ns es (more ps) f)
    (least n ps parts.0))
  where
    one_less : (x : ℕ) → 1 ≤ x → x ≡ 1 + (x - 1)
    one_less x h = omega arith

    regroup : (y k u v : ℕ) → (1 + y) * k + (u + v) ≡ (k + u) + (y * k + v)
    regroup y k u v = omega arith

    split : (x k u v : ℕ) → 1 ≤ x → x * k + (u + v) ≡ (k + u) + ((x - 1) * k + v)
    split x k u v h = ap (λ (z : ℕ). z * k + (u + v)) (one_less x h) ∙ regroup (x - 1) k u v
