-- The odd junctions of a piece without start and end are those of odd degree.
use Rattle.std.proofs.Common.{◌≡◌, ◌≤◌, ◌<◌, ℕ, ◌+◌, ◌%◌, ◌==◌, ◌&&◌, true, List, [], ◌∷◌, nat_lt, Contains, length, slice_index, arith, refl, sym, ◌∙◌, ap, subst}
use Rattle.free_ends.proofs.Names.{nat_tests, and_parts, eqb-true, filter_has, filter_passes, get_or-range_with_len, length-range_with_len, range_with_len, All-get_or, Edge, HasFreeEnds, PieceValue, degree, ends_below, is_odd, is_odd_junction, odd_junctions, one_if, unequal}

-- no line ends beyond the junctions
pub degree_none : (es : List Edge) (n v : ℕ) → ends_below n es ≡ true → n ≤ v → degree es v ≡ 0
degree_none [] n v below over = refl
degree_none (e ∷ es) n v below over =
    let parts = and_parts (nat_lt e.a n && nat_lt e.b n) (ends_below n es) below in
    let ends = and_parts (nat_lt e.a n) (nat_lt e.b n) parts.0 in
    let a : one_if (e.a == v) ≡ 0 = ap one_if (unequal e.a v (λ is. omega (arith, is, less e.a n ends.0, over))) in
    let b : one_if (e.b == v) ≡ 0 = ap one_if (unequal e.b v (λ is. omega (arith, is, less e.b n ends.1, over))) in
    omega (arith, a, b, degree_none es n v parts.1 over)
  where
    less : (i k : ℕ) → nat_lt i k ≡ true → i < k
    less i k is = grind (arith, nat_tests)

module _ (p : PieceValue) (free : HasFreeEnds p) where
  -- the test of an odd junction is that of its degree
  odd_is : (v : ℕ) → is_odd_junction p v ≡ is_odd (degree p.edges v)
  odd_is v = rw (free.start, free.end) refl

  -- an odd junction has an odd degree
  pub odd_degree : (i : ℕ) → i < length (odd_junctions p) → degree p.edges (slice_index (odd_junctions p) i) % 2 ≡ 1
  odd_degree i low =
      eqb-true (degree p.edges (slice_index (odd_junctions p) i) % 2) 1
      (sym (odd_is (slice_index (odd_junctions p) i)) ∙ All-get_or (λ (x : ℕ). is_odd_junction p x ≡ true) (odd_junctions p) i 0 low
      (filter_passes (is_odd_junction p) (range_with_len 0 (length p.junctions))))

  -- and a junction of odd degree is among them
  pub odd_place : (v : ℕ) → v < length p.junctions → degree p.edges v % 2 ≡ 1 → Contains (odd_junctions p) v
  odd_place v low odd = filter_has (is_odd_junction p) (range_with_len 0 (length p.junctions)) v (
    v,
    subst (λ (n : ℕ). v < n) (sym (length-range_with_len 0 (length p.junctions))) low,
    get_or-range_with_len 0 (length p.junctions) v v low ∙ from_zero v,
  )
      (odd_is v ∙ odd_test (degree p.edges v) odd)
    where
      from_zero : (n : ℕ) → 0 + n ≡ n
      from_zero n = omega arith

      odd_test : (d : ℕ) → d % 2 ≡ 1 → is_odd d ≡ true
      odd_test d is = rw is refl
