-- What ties add to a thread.
use Rattle.std.proofs.Common.{◌≡◌, ℕ, ◌+◌, ◌≤◌, Bool, true, false, ◌||◌, nat_le, List, [], ◌∷◌, ◌++◌, All, reverse, refl, sym, ap, ◌∙◌, arith}
use Rattle.std.proofs.lemmas.List.Elements.{All-cons, All-nil}
use Rattle.design_review.specs.declared.thread_needles.ThreadNeedle.{ThreadNeedle}
use Rattle.design_review.specs.Ties.{backwards, is_tied}
use Rattle.sewing_edits.specs.ThreadTies.{end_tie, is_single, is_tie_length, sewn_to, start_tie, tie_needles, tie_of, tied_thread}
use Rattle.sewing_edits.specs.TiePoints.{halfway_point, tie_point}
use Rattle.sewing_edits.specs.TieTheorems.{AreNearFirst, IsTieLength, are_spans_within, count_at}
use Rattle.sewing_edits.proofs.Names.{nat_tests, Point, is_same_point, same_is, square_of, if◌then◌else◌}
use Rattle.sewing_edits.proofs.OwnTieLemmas.{halves}
use Rattle.sewing_edits.proofs.ThreadTieLemmas.{has_last, spans_more}
use Rattle.sewing_edits.proofs.TiePointLemmas.{own_square, square_back, tie_length_fits}

count_joined : (p : Point) (xs ys : List ThreadNeedle) → count_at p (xs ++ ys) ≡ count_at p xs + count_at p ys
count_joined p [] ys = omega arith
count_joined p (n ∷ xs) ys = by_test (is_same_point p n.at) (count_joined p xs ys)
  where
    by_test : (same : Bool) → count_at p (xs ++ ys) ≡ count_at p xs + count_at p ys
        → (if same then 1 else 0) + count_at p (xs ++ ys) ≡ (if same then 1 else 0) + count_at p xs + count_at p ys
    by_test true is = omega (arith, is)
    by_test false is = omega (arith, is)

-- of p, h, q and h, two at most are one point
few : (a h q : Bool) → (h ≡ true → a ≡ false) → (h ≡ true → q ≡ false)
    → (if a then 1 else 0) + ((if h then 1 else 0) + ((if q then 1 else 0) + ((if h then 1 else 0) + 0))) ≤ 2
few a true q first second = rw (first refl, second refl) (omega arith)
few true false true first second = omega arith
few true false false first second = omega arith
few false false true first second = omega arith
few false false false first second = omega arith

few_back : (a h q : Bool) → (h ≡ true → a ≡ false) → (h ≡ true → q ≡ false)
    → (if h then 1 else 0) + ((if q then 1 else 0) + ((if h then 1 else 0) + ((if a then 1 else 0) + 0))) ≤ 2
few_back a true q first second = rw (first refl, second refl) (omega arith)
few_back true false true first second = omega arith
few_back true false false first second = omega arith
few_back false false true first second = omega arith
few_back false false false first second = omega arith

-- points with a stitch between them aren't both at one point
apart : (r p q : Point) → 8 ≤ square_of p q → is_same_point r p ≡ true → is_same_point r q ≡ false
apart r p q long same = by_test (is_same_point r q) refl
  where
    by_test : (other : Bool) → is_same_point r q ≡ other → other ≡ false
    by_test true is = absurd (omega (arith, long, ap (square_of p) (sym (same_is r q is) ∙ same_is r p same), own_square p))
    by_test false is = refl

tie_few : (r p q : Point) → is_tie_length (square_of p q) ≡ true
    → (count_at r (tie_needles p q) ≤ 2) × (count_at r (reverse (tie_needles p q)) ≤ 2)
tie_few r p q fits =
    let are = halves p q fits in
    let first : is_same_point r (halfway_point p q) ≡ true → is_same_point r p ≡ false =
    apart r (halfway_point p q) p (rw (square_back p (halfway_point p q)) are.low_first) in
    let second : is_same_point r (halfway_point p q) ≡ true → is_same_point r q ≡ false =
    apart r (halfway_point p q) q are.low_second in
    (few _ _ _ first second, few_back _ _ _ first second)

tie_of_few : (len : ℕ) (r : Point) (thread : List ThreadNeedle) → IsTieLength len
    → (count_at r (tie_of len thread) ≤ 2) × (count_at r (reverse (tie_of len thread)) ≤ 2)
tie_of_few len r [] is = (omega arith, omega arith)
tie_of_few len r (n ∷ rest) is = tie_few r n.at (tie_point len n.at rest) (tie_length_fits len n.at rest is)

pub few_added : (len : ℕ) (thread : List ThreadNeedle) (r : Point) → IsTieLength len
    → count_at r (tied_thread len thread) ≤ count_at r thread + 4
few_added len thread r is = omega (
  arith,
  start (is_tied 20 thread),
  end (is_tied 20 (backwards thread) || is_single thread),
  count_joined r (start_tie len thread) (thread ++ reverse (end_tie len thread)),
  count_joined r thread (reverse (end_tie len thread)),
)
  where
    start : (tied : Bool) → count_at r (if tied then [] else tie_of len thread) ≤ 2
    start true = omega arith
    start false = (tie_of_few len r thread is).0

    end : (tied : Bool) → count_at r (reverse (if tied then [] else tie_of len (backwards thread))) ≤ 2
    end true = omega arith
    end false = (tie_of_few len r (backwards thread) is).1

-- A needle of a tie of p.
abbrev IsNear : Point → ThreadNeedle → Type 0
IsNear p n = (n.float ≡ false) × (square_of p n.at ≤ 400)

long_is : (square : ℕ) → is_tie_length square ≡ true → square ≤ 400
long_is square is = grind (arith, nat_tests, is)

near_needles : (p q : Point) → is_tie_length (square_of p q) ≡ true → All (IsNear p) (tie_needles p q)
near_needles p q fits =
    let are = halves p q fits in
    let here : IsNear p (sewn_to p) = (refl, rw (own_square p) (omega arith)) in
    let half : IsNear p (sewn_to (halfway_point p q)) = (refl, omega (arith, are.high_first)) in
    let far : IsNear p (sewn_to q) = (refl, long_is (square_of p q) fits) in
    All-cons (IsNear p) (sewn_to p) (sewn_to (halfway_point p q) ∷ sewn_to q ∷ sewn_to (halfway_point p q) ∷ []) here
    (All-cons (IsNear p) (sewn_to (halfway_point p q)) (sewn_to q ∷ sewn_to (halfway_point p q) ∷ []) half
    (All-cons (IsNear p) (sewn_to q) (sewn_to (halfway_point p q) ∷ []) far
    (All-cons (IsNear p) (sewn_to (halfway_point p q)) [] half (All-nil (IsNear p)))))

near_first : (len : ℕ) (thread : List ThreadNeedle) (tied : Bool) → IsTieLength len
    → AreNearFirst thread (if tied then [] else tie_of len thread)
near_first len [] true is = refl
near_first len [] false is = refl
near_first len (n ∷ rest) true is = All-nil (IsNear n.at)
near_first len (n ∷ rest) false is = near_needles n.at (tie_point len n.at rest) (tie_length_fits len n.at rest is)

pub near_ends : (len : ℕ) (thread : List ThreadNeedle) → IsTieLength len
    → AreNearFirst thread (start_tie len thread) × AreNearFirst (backwards thread) (end_tie len thread)
near_ends len thread is =
    (near_first len thread (is_tied 20 thread) is, near_first len (backwards thread) (is_tied 20 (backwards thread) || is_single thread) is)

-- a tie before or after a needle has short stitches
short_tie : (square : ℕ) (p q : Point) (rest : List ThreadNeedle) → is_tie_length (square_of p q) ≡ true → 144 ≤ square
    → are_spans_within square (sewn_to p ∷ rest) ≡ true → are_spans_within square (tie_needles p q ++ sewn_to p ∷ rest) ≡ true
short_tie square p q rest fits limit within =
    let are = halves p q fits in
    rw (
      short (square_of p (halfway_point p q)) are.high_first,
      short (square_of (halfway_point p q) q) are.high_second,
      short (square_of q (halfway_point p q)) (rw (square_back (halfway_point p q) q) are.high_second),
      short (square_of (halfway_point p q) p) (rw (square_back p (halfway_point p q)) are.high_first),
    ) within
  where
    short : (n : ℕ) → n ≤ 144 → nat_le n square ≡ true
    short n less = grind (arith, nat_tests, less, limit)

short_end : (square : ℕ) (p q : Point) → is_tie_length (square_of p q) ≡ true → 144 ≤ square
    → are_spans_within square (sewn_to p ∷ reverse (tie_needles p q)) ≡ true
short_end square p q fits limit = short_tie square p q [] fits limit refl

spans_tied : (square len : ℕ) (n : ThreadNeedle) (rest : List ThreadNeedle) (start end : Bool) → IsTieLength len → 144 ≤ square
    → are_spans_within square (n ∷ rest) ≡ true
    → are_spans_within square ((if start then [] else tie_of len (n ∷ rest))
    ++ ((n ∷ rest) ++ reverse (if end then [] else tie_of len (backwards (n ∷ rest))))) ≡ true
spans_tied square len n rest start end is limit within = by_start start _ (by_end end)
  where
    last : Point
    last = (has_last n rest).last

    by_end : (end : Bool)
        → are_spans_within square ((n ∷ rest) ++ reverse (if end then [] else tie_of len (backwards (n ∷ rest)))) ≡ true
    by_end true = spans_more square n rest [] within refl
    by_end false = rw (has_last n rest).same (spans_more square n rest (reverse
        (tie_needles last (tie_point len last (has_last n rest).others)))
        within (short_end square last (tie_point len last (has_last n rest).others)
        (tie_length_fits len last (has_last n rest).others is) limit))

    short_before : (square : ℕ) (n : ThreadNeedle) (q : Point) (rest : List ThreadNeedle) → is_tie_length (square_of n.at q) ≡ true
        → 144 ≤ square → are_spans_within square (n ∷ rest) ≡ true → are_spans_within square (tie_needles n.at q ++ n ∷ rest) ≡ true
    short_before square n q [] fits limit all = short_tie square n.at q [] fits limit refl
    short_before square n q (m ∷ rest) fits limit all = short_tie square n.at q (m ∷ rest) fits limit all

    by_start : (start : Bool) (later : List ThreadNeedle) → are_spans_within square ((n ∷ rest) ++ later) ≡ true
        → are_spans_within square ((if start then [] else tie_of len (n ∷ rest)) ++ ((n ∷ rest) ++ later)) ≡ true
    by_start true later all = all
    by_start false later all =
        short_before square n (tie_point len n.at rest) (rest ++ later) (tie_length_fits len n.at rest is) limit all

pub no_longer : (square len : ℕ) (thread : List ThreadNeedle) → IsTieLength len → 144 ≤ square
    → are_spans_within square thread ≡ true → are_spans_within square (tied_thread len thread) ≡ true
no_longer square len [] is limit within = refl
no_longer square len (n ∷ rest) is limit within = spans_tied square len n rest (is_tied 20 (n ∷ rest))
    (is_tied 20 (backwards (n ∷ rest)) || is_single (n ∷ rest)) is limit within
