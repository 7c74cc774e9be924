-- Degrees of junctions: the ends of the closing line, the sum of all degrees, and the number of odd ones.
use Rattle.std.proofs.Common.{◌≡◌, ℕ, zero, suc, ◌+◌, ◌*◌, ◌%◌, ◌<◌, ◌≤◌, ◌==◌, Bool, true, false, ◌&&◌, List, [], ◌∷◌, ◌++◌, Option, length, inl, inr, refl, arith}
use Rattle.odd_paths.proofs.Names.{and_parts, cases_eq, nat_tests, length-range_with_len, range_with_len, nat_lt, Edge, MAX_LINES, IsValidPiece, ends_below, PieceValue, one_if, odd_junctions, odds_from, count_by-le-length, length-filter, filter, cond, edges_with_closing, closing_edge, degree, degrees_from, given_start, is_odd, given_end, singleton_if, degree_closed, ends_of_back, or_below, over_zero, sum_over}
use Rattle.line_graph.specs.ClosedDegrees.{closing_ends}

only_kept : (test : Bool) (at : ℕ) (rest : List ℕ) → singleton_if test at ++ rest ≡ cond test (at ∷ rest) rest
only_kept true at rest = refl
only_kept false at rest = refl

pub odds_kept : (from to : Option ℕ) (es : List Edge) (at n : ℕ)
    → odds_from from to at (degrees_from es at n) ≡ filter (λ j. is_odd (degree (closing_edge from to ++ es) j)) (range_with_len at n)
odds_kept from to es at zero = refl
odds_kept from to es at (suc n) =
    rw (degree_closed from to es at, ← odds_kept from to es (at + 1) n)
    (only_kept (is_odd (closing_ends from to at + degree es at)) at (odds_from from to (at + 1) (degrees_from es (at + 1) n)))

odd_count : (f : ℕ → ℕ) (at n : ℕ) → length (filter (λ j. is_odd (f j)) (range_with_len at n)) % 2 ≡ sum_over f at n % 2
odd_count f at zero = refl
odd_count f at (suc n) = grind (arith, nat_tests, sum_over f (at + 1) n, odd_count f (at + 1) n)

sum_added : (f g : ℕ → ℕ) (at n : ℕ) → sum_over (λ j. f j + g j) at n ≡ sum_over f at n + sum_over g at n
sum_added f g at zero = refl
sum_added f g at (suc n) = omega (arith, sum_added f g (at + 1) n)

-- each end of a line is at one junction
end_below : (a at n : ℕ) → a < at → sum_over (λ j. one_if (a == j)) at n ≡ 0
end_below a at zero low = refl
end_below a at (suc n) low =
    let other : (a == at) ≡ false = grind (arith, nat_tests) in
    rw other (omega (arith, end_below a (at + 1) n (omega arith)))

end_once : (a at n : ℕ) → at ≤ a → a < at + n → sum_over (λ j. one_if (a == j)) at n ≡ 1
end_once a at zero low high = absurd (omega arith)
end_once a at (suc n) low high = elim (cases_eq a at) [
  | inl same ↦
      let here : (a == at) ≡ true = grind (arith, nat_tests) in
      rw here (omega (arith, end_below a (at + 1) n (omega arith)))
  | inr apart ↦
      let other : (a == at) ≡ false = grind (arith, nat_tests) in
      rw other (omega (arith, end_once a (at + 1) n (omega arith) (omega arith)))
]

-- so the degrees sum up to twice the number of lines
degrees_sum : (es : List Edge) (n : ℕ) → ends_below n es ≡ true → sum_over (degree es) 0 n ≡ 2 * length es
degrees_sum [] n below = over_zero 0 n
degrees_sum (e ∷ es) n below =
    let both = and_parts (nat_lt e.a n && nat_lt e.b n) (ends_below n es) below in
    let ends = and_parts (nat_lt e.a n) (nat_lt e.b n) both.0 in
    let a_there : e.a < n = grind (arith, nat_tests) in
    let b_there : e.b < n = grind (arith, nat_tests) in
    let whole : sum_over (degree (e ∷ es)) 0 n ≡ sum_over (λ j. one_if (e.a == j) + one_if (e.b == j)) 0 n + sum_over (degree es) 0 n
    = sum_added (λ j. one_if (e.a == j) + one_if (e.b == j)) (degree es) 0 n in
    let line = sum_added (λ j. one_if (e.a == j)) (λ j. one_if (e.b == j)) 0 n in
    let a_once = end_once e.a 0 n (omega arith) (omega arith) in
    omega (arith, whole, line, a_once, end_once e.b 0 n (omega arith) (omega arith), degrees_sum es n both.1)

-- the odd junctions are even in number, and few
pub even_few : (p : PieceValue) → IsValidPiece p → (length (odd_junctions p) % 2 ≡ 0) × (length (odd_junctions p) ≤ MAX_LINES)
even_few p keeps =
    let n = length p.junctions in
    let es = edges_with_closing p in
    let below = ends_of_back n (given_start p) (given_end p) p.edges
    (or_below n p.start p.end keeps.start_below keeps.end_below)
    (or_below n p.end p.start keeps.end_below keeps.start_below) keeps.ends in
    let count : length (odd_junctions p) % 2 ≡ sum_over (degree es) 0 n % 2 = odd_count (degree es) 0 n in
    let sum : sum_over (degree es) 0 n ≡ 2 * length es = degrees_sum es n below in
    let most : length (odd_junctions p) ≤ n = kept_few (λ j. is_odd (degree es j)) n in
    fits (length (odd_junctions p)) (sum_over (degree es) 0 n) (length es) n (length p.lines) count sum most keeps.junctions_few keeps.few
  where
    kept_few : (test : ℕ → Bool) (n : ℕ) → length (filter test (range_with_len 0 n)) ≤ n
    kept_few test n =
        let js = range_with_len 0 n in
        omega (arith, length-filter test js, count_by-le-length test js, length-range_with_len 0 n)

    fits : (odds sum count n lines : ℕ) → odds % 2 ≡ sum % 2 → sum ≡ 2 * count → odds ≤ n → n ≤ lines + 1 → lines ≤ MAX_LINES
        → (odds % 2 ≡ 0) × (odds ≤ MAX_LINES)
    fits odds sum count n lines same twice most near few = (omega arith, omega arith)
