-- Segments beside a strip touch no part in it: where two segments share a point, it lies between the ends of both, across
-- any direction.
use Rattle.std.proofs.Common.{◌≡◌, ℕ, ◌+◌, ◌-◌, ◌*◌, ◌<◌, ◌≤◌, max, min, Bool, true, false, ◌&&◌, ◌||◌, ◌==◌, nat_lt, if◌then◌else◌, arith, refl, sym, subst, ap, ◌∙◌}
use Rattle.std.proofs.Math.Nat.{mul-le-mul_left, lt_of_mul-lt-mul_left}
use Rattle.design_model.proofs.ListLemmas.{first_true, second_true}
use Rattle.drawing_review.specs.declared.grid_point.GridPoint.{GridPoint}
use Rattle.drawing_review.specs.Meetings.{clockwise_sum, counter_sum, cross_inside, lies_between}
use Rattle.drawing_review.specs.declared.strip.Direction.{Direction}
use Rattle.drawing_review.specs.declared.strip.Strip.{Strip}
use Rattle.line_meetings.specs.Parts.{rank_of}
use Rattle.drawing_review.specs.Strips.{is_beside_strip, is_right_of, left_sum, right_sum}
use Rattle.line_meetings.specs.Outlines.{LiesInStrip}
use Rattle.line_meetings.specs.Touches.{do_overlap, is_along, shared_end, shared_start}
use Rattle.line_meetings.proofs.Names.{LineSegment, ltb-true, nat_tests}

-- the sum of the products of two factors and a point
abbrev across : (u v : ℕ) → GridPoint → ℕ
across u v p = u * p.y + v * p.x

-- a point of t isn't as far across as one of s
abbrev IsBefore : (u v m n : ℕ) → (p q : GridPoint) → Type 0
IsBefore u v m n p q = across u v p + across m n q < across u v q + across m n p

-- points with weights are others with weights
record AreWeighted (k l m n : ℕ) (p q r s : GridPoint) : Type 0 where
  x : k * p.x + l * q.x ≡ m * r.x + n * s.x
  y : k * p.y + l * q.y ≡ m * r.y + n * s.y

weighted_across : (u v k l m n : ℕ) (p q r s : GridPoint) → AreWeighted k l m n p q r s
    → k * across u v p + l * across u v q ≡ m * across u v r + n * across u v s
weighted_across u v k l m n p q r s are =
    omega (arith, ap (λ (z : ℕ). u * z) are.y, ap (λ (z : ℕ). v * z) are.x)

-- what is before each of two points isn't between them
transport : (u v m n k l j : ℕ) (p q r s : GridPoint) → AreWeighted k (l + j) (k + l) j p q r s → 0 < k + l + j
    → IsBefore u v m n r p → IsBefore u v m n r q → IsBefore u v m n s q → ⊥
transport u v m n k l j p q r s are some first second third =
    let positive = weighted_across u v k (l + j) (k + l) j p q r s are in
    let negative = weighted_across m n k (l + j) (k + l) j p q r s are in
    omega (arith, some, positive, negative, mul-le-mul_left k first, mul-le-mul_left l second, mul-le-mul_left j third)

transport_back : (u v m n k l j : ℕ) (p q r s : GridPoint) → AreWeighted (k + l) j k (l + j) p q r s → 0 < k + l + j
    → IsBefore u v m n r p → IsBefore u v m n s p → IsBefore u v m n s q → ⊥
transport_back u v m n k l j p q r s are some first second third =
    let positive = weighted_across u v (k + l) j k (l + j) p q r s are in
    let negative = weighted_across m n (k + l) j k (l + j) p q r s are in
    omega (arith, some, positive, negative, mul-le-mul_left k first, mul-le-mul_left l second, mul-le-mul_left j third)

-- both ends of a segment are before both ends of another
record AreBefore (u v m n : ℕ) (t s : LineSegment) : Type 0 where
  aa : IsBefore u v m n t.a s.a
  ab : IsBefore u v m n t.a s.b
  ba : IsBefore u v m n t.b s.a
  bb : IsBefore u v m n t.b s.b

-- segments that share a point between their ends aren't one before the other
none_shared : (u v m n : ℕ) (s t : LineSegment) (k l i j : ℕ) → AreWeighted k l i j s.a s.b t.a t.b → k + l ≡ i + j → 0 < k + l
    → AreBefore u v m n t s → ⊥
none_shared u v m n s t k l i j are same some before = by_test (nat_lt i k) refl
  where
    longer : (d : ℕ) → i ≡ k + d → l ≡ d + j → ⊥
    longer d is_i is_l = transport u v m n k d j s.a s.b t.a t.b
        (subst (λ (c : ℕ). AreWeighted k c (k + d) j s.a s.b t.a t.b) is_l
        (subst (λ (c : ℕ). AreWeighted k l c j s.a s.b t.a t.b) is_i are)) (omega (arith, some, is_l)) before.aa before.ab before.bb

    shorter : (d : ℕ) → k ≡ i + d → j ≡ d + l → ⊥
    shorter d is_k is_j = transport_back u v m n i d l s.a s.b t.a t.b
        (subst (λ (c : ℕ). AreWeighted (i + d) l i c s.a s.b t.a t.b) is_j
        (subst (λ (c : ℕ). AreWeighted c l i j s.a s.b t.a t.b) is_k are)) (omega (arith, some, is_k)) before.aa before.ba before.bb

    by_test : (b : Bool) → nat_lt i k ≡ b → ⊥
    by_test true is = let less = ltb-true i k is in shorter (k - i) (omega (arith, less)) (omega (arith, less, same))
    by_test false is = let more : k ≤ i = grind (arith, nat_tests, is) in longer (i - k) (omega (arith, more)) (omega (arith, more, same))

-- equal numbers by a factor
by : {m n : ℕ} (factor : ℕ) → m ≡ n → m * factor ≡ n * factor
by factor is = ap (λ (z : ℕ). z * factor) is

-- the point at which segments cross, by the weights of their ends
weighted_one_way : (s t : LineSegment) (k l i j : ℕ) → k + clockwise_sum t s.b ≡ counter_sum t s.b → l + counter_sum t s.a
    ≡ clockwise_sum t s.a
    → i + counter_sum s t.b ≡ clockwise_sum s t.b → j + clockwise_sum s t.a ≡ counter_sum s t.a → AreWeighted k l i j s.a s.b t.a t.b
weighted_one_way s t k l i j is_k is_l is_i is_j = record {
  x = omega (arith, by s.a.x is_k, by s.b.x is_l, by t.a.x is_i, by t.b.x is_j);
  y = omega (arith, by s.a.y is_k, by s.b.y is_l, by t.a.y is_i, by t.b.y is_j);
}

weighted_other_way : (s t : LineSegment) (k l i j : ℕ) → k + counter_sum t s.b ≡ clockwise_sum t s.b → l + clockwise_sum t s.a
    ≡ counter_sum t s.a
    → i + clockwise_sum s t.b ≡ counter_sum s t.b → j + counter_sum s t.a ≡ clockwise_sum s t.a → AreWeighted k l i j s.a s.b t.a t.b
weighted_other_way s t k l i j is_k is_l is_i is_j = record {
  x = omega (arith, by s.a.x is_k, by s.b.x is_l, by t.a.x is_i, by t.b.x is_j);
  y = omega (arith, by s.a.y is_k, by s.b.y is_l, by t.a.y is_i, by t.b.y is_j);
}

both_true : (a b : Bool) → (a && b) ≡ true → (a ≡ true) × (b ≡ true)
both_true a b is = (first_true a b is, second_true a b is)

-- two numbers are in one order, and two others in the other
ways : {C : Type 0} (a b c d : ℕ) → ((nat_lt a b && nat_lt d c) || (nat_lt b a && nat_lt c d)) ≡ true
    → (a < b → d < c → C) → (b < a → c < d → C) → C
ways {C = C} a b c d is first second = by_test (nat_lt a b) refl
  where
    by_test : (t : Bool) → nat_lt a b ≡ t → C
    by_test true less = first (ltb-true a b less) (grind (arith, nat_tests, less, is))
    by_test false more = second (grind (arith, nat_tests, more, is)) (grind (arith, nat_tests, more, is))

crossed_apart : (u v m n : ℕ) (s t : LineSegment) → lies_between s t ≡ true → lies_between t s ≡ true → AreBefore u v m n t s → ⊥
crossed_apart u v m n s t of_s of_t before =
    ways (clockwise_sum s t.a) (counter_sum s t.a) (clockwise_sum s t.b) (counter_sum s t.b) of_s
    (λ a b. ways (clockwise_sum t s.a) (counter_sum t s.a) (clockwise_sum t s.b) (counter_sum t s.b) of_t
    (λ c d. omega (arith, a, b, c, d)) (λ c d. one_way a b c d))
    (λ a b. ways (clockwise_sum t s.a) (counter_sum t s.a) (clockwise_sum t s.b) (counter_sum t s.b) of_t
    (λ c d. other_way a b c d) (λ c d. omega (arith, a, b, c, d)))
  where
    one_way : clockwise_sum s t.a < counter_sum s t.a → counter_sum s t.b < clockwise_sum s t.b
        → counter_sum t s.a < clockwise_sum t s.a → clockwise_sum t s.b < counter_sum t s.b → ⊥
    one_way a b c d =
        let k = counter_sum t s.b - clockwise_sum t s.b in
        let l = clockwise_sum t s.a - counter_sum t s.a in
        let i = clockwise_sum s t.b - counter_sum s t.b in
        let j = counter_sum s t.a - clockwise_sum s t.a in
        none_shared u v m n s t k l i j (weighted_one_way s t k l i j (omega (arith, d)) (omega (arith, c)) (omega (arith, b))
        (omega (arith, a)))
        (omega (arith, a, b, c, d)) (omega (arith, d)) before

    other_way : counter_sum s t.a < clockwise_sum s t.a → clockwise_sum s t.b < counter_sum s t.b
        → clockwise_sum t s.a < counter_sum t s.a → counter_sum t s.b < clockwise_sum t s.b → ⊥
    other_way a b c d =
        let k = clockwise_sum t s.b - counter_sum t s.b in
        let l = counter_sum t s.a - clockwise_sum t s.a in
        let i = counter_sum s t.b - clockwise_sum s t.b in
        let j = clockwise_sum s t.a - counter_sum s t.a in
        none_shared u v m n s t k l i j (weighted_other_way s t k l i j (omega (arith, d)) (omega (arith, c)) (omega (arith, b))
        (omega (arith, a)))
        (omega (arith, a, b, c, d)) (omega (arith, d)) before

-- points on the line through a segment, by how far along it their ranks are
along_x : (s : LineSegment) (p : GridPoint) (whole part : ℕ) → clockwise_sum s p ≡ counter_sum s p → whole + rank_of s.a ≡ rank_of s.b
    → part + rank_of s.a ≡ rank_of p → AreWeighted whole part whole part p s.a s.a s.b
along_x s p whole part on is_whole is_part = record {
  x = omega (arith, on, by p.x is_whole, by s.a.x is_whole, by s.a.x is_part, by s.b.x is_part);
  y = omega (arith, on, by p.y is_whole, by s.a.y is_whole, by s.a.y is_part, by s.b.y is_part);
}

back_along : (s : LineSegment) (p : GridPoint) (whole part : ℕ) → clockwise_sum s p ≡ counter_sum s p → whole + rank_of s.a ≡ rank_of s.b
    → part + rank_of p ≡ rank_of s.b → AreWeighted whole part whole part s.b s.a p s.b
back_along s p whole part on is_whole is_part = record {
  x = omega (arith, on, by p.x is_whole, by s.b.x is_whole, by s.a.x is_part, by s.b.x is_part);
  y = omega (arith, on, by p.y is_whole, by s.b.y is_whole, by s.a.y is_part, by s.b.y is_part);
}

-- the ranks of where what two segments share begins and ends
start_rank : (p q : GridPoint) → rank_of (if nat_lt (rank_of p) (rank_of q) then q else p) ≡ max (rank_of p) (rank_of q)
start_rank p q = by_test (nat_lt (rank_of p) (rank_of q)) refl
  where
    by_test : (b : Bool) → nat_lt (rank_of p) (rank_of q) ≡ b → rank_of (if b then q else p) ≡ max (rank_of p) (rank_of q)
    by_test true less = omega (arith, ltb-true (rank_of p) (rank_of q) less)
    by_test false more = grind (arith, nat_tests, more)

end_rank : (p q : GridPoint) → rank_of (if nat_lt (rank_of q) (rank_of p) then q else p) ≡ min (rank_of p) (rank_of q)
end_rank p q = by_test (nat_lt (rank_of q) (rank_of p)) refl
  where
    by_test : (b : Bool) → nat_lt (rank_of q) (rank_of p) ≡ b → rank_of (if b then q else p) ≡ min (rank_of p) (rank_of q)
    by_test true less = omega (arith, ltb-true (rank_of q) (rank_of p) less)
    by_test false more = grind (arith, nat_tests, more)

equal : (m n : ℕ) → (m == n) ≡ true → m ≡ n
equal m n is = grind (arith, nat_tests, is)

overlap_apart : (u v m n : ℕ) (s t : LineSegment) → do_overlap s t ≡ true → AreBefore u v m n t s → ⊥
overlap_apart u v m n s t overlap before = omega (arith, less, more)
  where
    parts : (is_along s t ≡ true) × (nat_lt (rank_of (shared_start s t)) (rank_of (shared_end s t)) ≡ true)
    parts = both_true _ _ overlap

    on : (clockwise_sum s t.a ≡ counter_sum s t.a) × (clockwise_sum s t.b ≡ counter_sum s t.b)
    on = let both = both_true _ _ parts.0 in (equal _ _ both.0, equal _ _ both.1)

    ranks : max (rank_of s.a) (rank_of t.a) < min (rank_of s.b) (rank_of t.b)
    ranks = omega (arith, ltb-true (rank_of (shared_start s t)) (rank_of (shared_end s t)) parts.1, start_rank s.a t.a, end_rank s.b t.b)

    whole : ℕ
    whole = rank_of s.b - rank_of s.a

    later : ℕ
    later = rank_of t.b - rank_of s.a

    earlier : ℕ
    earlier = rank_of s.b - rank_of t.a

    of_end : AreWeighted whole later whole later t.b s.a s.a s.b
    of_end = along_x s t.b whole later on.1 (omega (arith, ranks)) (omega (arith, ranks))

    of_start : AreWeighted whole earlier whole earlier s.b s.a t.a s.b
    of_start = back_along s t.a whole earlier on.0 (omega (arith, ranks)) (omega (arith, ranks))

    less : across u v s.b + across m n s.a < across u v s.a + across m n s.b
    less = lt_of_mul-lt-mul_left later (omega (
      arith,
      ranks,
      mul-le-mul_left whole before.ba,
      weighted_across u v whole later whole later t.b s.a s.a s.b of_end,
      weighted_across m n whole later whole later t.b s.a s.a s.b of_end,
    ))

    more : across u v s.a + across m n s.b < across u v s.b + across m n s.a
    more = lt_of_mul-lt-mul_left earlier (omega (
      arith,
      ranks,
      mul-le-mul_left whole before.ab,
      weighted_across u v whole earlier whole earlier s.b s.a t.a s.b of_start,
      weighted_across m n whole earlier whole earlier s.b s.a t.a s.b of_start,
    ))

none_touches : (u v m n : ℕ) (s t : LineSegment) → AreBefore u v m n t s → (cross_inside s t || do_overlap s t) ≡ false
none_touches u v m n s t before = by_tests (cross_inside s t) (do_overlap s t) refl refl
  where
    by_tests : (b c : Bool) → cross_inside s t ≡ b → do_overlap s t ≡ c → (b || c) ≡ false
    by_tests false false none never = refl
    by_tests false true none overlap = absurd (overlap_apart u v m n s t overlap before)
    by_tests true c cross any =
        let sides = both_true _ _ (both_true _ _ cross).1 in absurd (crossed_apart u v m n s t sides.0 sides.1 before)

-- A segment beside a strip touches no part in it.
pub beside_apart : (strip : Strip) (s t : LineSegment) → LiesInStrip strip t → is_beside_strip strip s ≡ true
    → (cross_inside s t || do_overlap s t) ≡ false
beside_apart strip s t lies beside = by_test (is_right_of strip.along s.a strip.right && is_right_of strip.along s.b strip.right) refl
  where
    d : Direction
    d = strip.along

    behind : (p q r : GridPoint) → is_right_of d q p ≡ true → is_right_of d r p ≡ false
        → right_sum d r + left_sum d q < right_sum d q + left_sum d r
    behind p q r is not = grind (arith, nat_tests, is, not)

    ahead : (p q r : GridPoint) → is_right_of d p q ≡ true → is_right_of d p r ≡ false
        → left_sum d r + right_sum d q < left_sum d q + right_sum d r
    ahead p q r is not = grind (arith, nat_tests, is, not)

    by_test : (b : Bool) → (is_right_of d s.a strip.right && is_right_of d s.b strip.right) ≡ b
        → (cross_inside s t || do_overlap s t) ≡ false
    by_test true right = let both = both_true _ _ right in none_touches d.to.x d.from.y d.from.x d.to.y s t (record {
      aa = behind strip.right s.a t.a both.0 lies.right_a;
      ab = behind strip.right s.b t.a both.1 lies.right_a;
      ba = behind strip.right s.a t.b both.0 lies.right_b;
      bb = behind strip.right s.b t.b both.1 lies.right_b;
    })
    by_test false not = let both = both_true _ _ (sym (ap (λ (b : Bool). b
        || (is_right_of d strip.left s.a && is_right_of d strip.left s.b)) not) ∙ beside) in
        none_touches d.from.x d.to.y d.to.x d.from.y s t (record {
          aa = ahead strip.left s.a t.a both.0 lies.left_a;
          ab = ahead strip.left s.b t.a both.1 lies.left_a;
          ba = ahead strip.left s.a t.b both.0 lies.left_b;
          bb = ahead strip.left s.b t.b both.1 lies.left_b;
        })
