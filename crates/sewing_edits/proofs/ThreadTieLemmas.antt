-- Threads that are tied and bared.
use Rattle.std.proofs.Common.{◌≡◌, ℕ, suc, ◌+◌, ◌-◌, ◌≤◌, Bool, true, false, ◌||◌, nat_le, List, [], ◌∷◌, ◌++◌, length, map, reverse, take, refl, sym, ap, subst, ◌∙◌, append-nil, append_assoc, arith}
use Rattle.std.proofs.Math.Seq.{take-append_seam}
use Rattle.std.proofs.lemmas.List.{length-append, reverse-append}
use Rattle.design_review.specs.declared.thread_needles.ThreadNeedle.{ThreadNeedle}
use Rattle.design_review.specs.Ties.{backwards, beginning_after, count_tie_stitches, is_floated_to, is_near_first, is_tie_stitch, is_tied, with_next_floats}
use Rattle.sewing_edits.specs.ThreadTies.{are_tie_needles, bared_end, bared_start, bared_thread, end_tie, has_own_tie, is_single, is_tie_length, sewn_to, start_tie, tie_needles, tie_of, tied_thread}
use Rattle.sewing_edits.specs.TiePoints.{halfway_point, tie_point}
use Rattle.sewing_edits.specs.TieTheorems.{IsTieLength, are_spans_within}
use Rattle.sewing_edits.proofs.Names.{nat_tests, Point, false_true, first_true, second_true, point_itself, square_of, if◌then◌else◌}
use Rattle.sewing_edits.proofs.OwnTieLemmas.{four_tied, own_tied}
use Rattle.sewing_edits.proofs.TiePointLemmas.{tie_length_fits}

-- further needles take no stitch of a beginning away
count_more : (reach : ℕ) (first before : Point) (xs ys : List ThreadNeedle)
    → count_tie_stitches before (beginning_after reach first xs) ≤ count_tie_stitches before (beginning_after reach first (xs ++ ys))
count_more reach first before [] ys = omega arith
count_more reach first before (n ∷ rest) ys = by_near (is_near_first reach first n) (count_more reach first n.at rest ys)
  where
    by_near : (near : Bool)
        → count_tie_stitches n.at (beginning_after reach first rest) ≤ count_tie_stitches n.at (beginning_after reach first (rest ++ ys))
        → count_tie_stitches before (if near then n.at ∷ beginning_after reach first rest else [])
        ≤ count_tie_stitches before (if near then n.at ∷ beginning_after reach first (rest ++ ys) else [])
    by_near true less = omega (arith, less)
    by_near false less = omega arith

-- a thread that is tied at its start is so with further needles
pub tied_more : (reach : ℕ) (xs ys : List ThreadNeedle) → is_tied reach xs ≡ true → is_tied reach (xs ++ ys) ≡ true
tied_more reach [] ys is = cc
tied_more reach (n ∷ rest) ys is = at_least _ _ is (count_more reach n.at n.at rest ys)
  where
    at_least : (a b : ℕ) → nat_le 3 a ≡ true → a ≤ b → nat_le 3 b ≡ true
    at_least a b is less = grind (arith, nat_tests, is, less)

-- a thread that is tied has three stitches
count_few : (p : Point) (points : List Point) → count_tie_stitches p points ≤ length points
count_few p [] = omega arith
count_few p (q ∷ rest) = by_test (is_tie q) (count_few q rest)
  where
    is_tie : Point → Bool
    is_tie q = is_tie_stitch p q

    by_test : (test : Bool) → count_tie_stitches q rest ≤ length rest
        → (if test then 1 else 0) + count_tie_stitches q rest ≤ suc (length rest)
    by_test true less = omega (arith, less)
    by_test false less = omega (arith, less)

begins_few : (reach : ℕ) (first : Point) (rest : List ThreadNeedle) → length (beginning_after reach first rest) ≤ length rest
begins_few reach first [] = omega arith
begins_few reach first (n ∷ rest) = by_near (is_near_first reach first n) (begins_few reach first rest)
  where
    by_near : (near : Bool) → length (beginning_after reach first rest) ≤ length rest
        → length (if near then n.at ∷ beginning_after reach first rest else []) ≤ suc (length rest)
    by_near true less = omega (arith, less)
    by_near false less = omega arith

tied_long : (reach : ℕ) (n : ThreadNeedle) (rest : List ThreadNeedle) → is_tied reach (n ∷ rest) ≡ true → 3 ≤ length rest
tied_long reach n rest is = long (count_tie_stitches n.at (beginning_after reach n.at rest)) is
    (count_few n.at (beginning_after reach n.at rest)) (begins_few reach n.at rest)
  where
    long : {a b : ℕ} (count : ℕ) → nat_le 3 count ≡ true → count ≤ a → a ≤ b → 3 ≤ b
    long count is few fewer = grind (arith, nat_tests, is, few, fewer)

-- what isn't tied has no tie
own_none : (thread : List ThreadNeedle) → is_tied 20 thread ≡ false → has_own_tie thread ≡ false
own_none thread untied = by_own (has_own_tie thread) refl
  where
    by_own : (own : Bool) → has_own_tie thread ≡ own → own ≡ false
    by_own true is = absurd (false_true (sym untied ∙ own_tied thread is))
    by_own false is = refl

-- needles of a tie before p are one
pub own_put : (p q : Point) (rest : List ThreadNeedle) → is_tie_length (square_of p q) ≡ true
    → has_own_tie (tie_needles p q ++ sewn_to p ∷ rest) ≡ true
own_put p q rest fits = rw (point_itself p, point_itself (halfway_point p q), fits) refl

-- The needles that are sewn to.
abbrev pub sewn_all : List Point → List ThreadNeedle
sewn_all points = map sewn_to points

no_float : (points : List Point) → is_floated_to (sewn_all points) ≡ false
no_float [] = refl
no_float (p ∷ rest) = refl

-- needles that are sewn to after a thread come backwards before it
next_sewn : (points : List Point) → with_next_floats (sewn_all points) ≡ sewn_all points
next_sewn [] = refl
next_sewn (p ∷ rest) = rw (no_float rest) (ap (λ ns. sewn_to p ∷ ns) (next_sewn rest))

next_after : (thread : List ThreadNeedle) (points : List Point)
    → with_next_floats (thread ++ sewn_all points) ≡ with_next_floats thread ++ sewn_all points
next_after [] points = next_sewn points
next_after (n ∷ []) points = rw (no_float points) (ap (λ ns. sewn_to n.at ∷ ns) (next_sewn points))
next_after (n ∷ m ∷ rest) points =
    ap (λ (ns : List ThreadNeedle). record { at = n.at; float = m.float } ∷ ns) (next_after (m ∷ rest) points)

pub backwards_tied : (thread : List ThreadNeedle) (p q : Point)
    → backwards (thread ++ reverse (tie_needles p q)) ≡ tie_needles p q ++ backwards thread
backwards_tied thread p q =
    ap reverse (next_after thread (halfway_point p q ∷ q ∷ halfway_point p q ∷ p ∷ []))
    ∙ reverse-append (with_next_floats thread) (sewn_all (halfway_point p q ∷ q ∷ halfway_point p q ∷ p ∷ []))

-- The needles before some of a thread come backwards after them.
pub record ComesBefore (thread later : List ThreadNeedle) : Type 0 where
  pub others : List ThreadNeedle
  pub same : backwards thread ≡ backwards later ++ others

next_before : (before : List ThreadNeedle) (n : ThreadNeedle) (rest : List ThreadNeedle)
    → (ns : List ThreadNeedle) × (with_next_floats (before ++ n ∷ rest) ≡ ns ++ with_next_floats (n ∷ rest))
next_before [] n rest = ([], refl)
next_before (m ∷ before) n rest =
    let later = next_before before n rest in
    let first : ThreadNeedle = record { at = m.at; float = is_floated_to (before ++ n ∷ rest) } in
    (first ∷ later.0, ap (λ ns. first ∷ ns) later.1)

pub comes_before : (before : List ThreadNeedle) (n : ThreadNeedle) (rest : List ThreadNeedle)
    → ComesBefore (before ++ n ∷ rest) (n ∷ rest)
comes_before before n rest =
    let later = next_before before n rest in
    record {
      others = reverse later.0;
      same = ap reverse later.1 ∙ reverse-append later.0 (with_next_floats (n ∷ rest));
    }

-- A thread backwards begins with its last needle, which no thread floats to.
pub record HasLast (thread : List ThreadNeedle) : Type 0 where
  pub last : Point
  pub others : List ThreadNeedle
  pub same : backwards thread ≡ sewn_to last ∷ others

next_last : (n : ThreadNeedle) (rest : List ThreadNeedle)
    → (last : Point) × (ns : List ThreadNeedle) × (with_next_floats (n ∷ rest) ≡ ns ++ sewn_to last ∷ [])
next_last n [] = (n.at, [], refl)
next_last n (m ∷ rest) =
    let later = next_last m rest in
    let first : ThreadNeedle = record { at = n.at; float = m.float } in
    (later.0, first ∷ later.1, ap (λ ns. first ∷ ns) later.2)

pub has_last : (n : ThreadNeedle) (rest : List ThreadNeedle) → HasLast (n ∷ rest)
has_last n rest =
    let later = next_last n rest in
    record {
      last = later.0;
      others = reverse later.1;
      same = ap reverse later.2 ∙ reverse-append later.1 (sewn_to later.0 ∷ []);
    }

-- the last needle of a thread is that of its last needles
last_of : (before : List ThreadNeedle) (n : ThreadNeedle) (rest : List ThreadNeedle)
    → backwards (before ++ n ∷ rest)
    ≡ sewn_to (has_last n rest).last ∷ ((has_last n rest).others ++ (comes_before before n rest).others)
last_of before n rest = (comes_before before n rest).same
    ∙ ap (λ ns. ns ++ (comes_before before n rest).others) (has_last n rest).same

-- a tie after needles is taken away, whatever came before them
end_taken : (length : ℕ) (before : List ThreadNeedle) (n : ThreadNeedle) (rest : List ThreadNeedle) → IsTieLength length
    → bared_end ((n ∷ rest) ++ reverse (tie_of length (backwards (before ++ n ∷ rest)))) ≡ n ∷ rest
end_taken len before n rest is =
    rw (last_of before n rest) (rw (backwards_tied (n ∷ rest) p q, (has_last n rest).same) (rw own (taken (n ∷ rest) p q)))
  where
    p : Point
    p = (has_last n rest).last

    q : Point
    q = tie_point len p ((has_last n rest).others ++ (comes_before before n rest).others)

    own : has_own_tie (tie_needles p q ++ sewn_to p ∷ (has_last n rest).others) ≡ true
    own = own_put p q (has_last n rest).others
        (tie_length_fits len p ((has_last n rest).others ++ (comes_before before n rest).others) is)

    taken : (thread : List ThreadNeedle) (p q : Point)
        → take (length (thread ++ reverse (tie_needles p q)) - 4) (thread ++ reverse (tie_needles p q)) ≡ thread
    taken thread p q =
        let four : length (thread ++ reverse (tie_needles p q)) - 4 ≡ length thread =
        omega (arith, length-append thread (reverse (tie_needles p q))) in
        ap (λ i. take i (thread ++ reverse (tie_needles p q))) four ∙ take-append_seam thread (reverse (tie_needles p q))

-- the end of a thread that isn't tied stays
end_stays : (thread : List ThreadNeedle) → is_tied 20 (backwards thread) ≡ false → bared_end thread ≡ thread
end_stays thread untied = rw (own_none (backwards thread) untied) refl

last_untied : (before : List ThreadNeedle) (n : ThreadNeedle) (rest : List ThreadNeedle)
    → is_tied 20 (backwards (before ++ n ∷ rest)) ≡ false → bared_end (n ∷ rest) ≡ n ∷ rest
last_untied before n rest untied = end_stays (n ∷ rest) (by_tied (is_tied 20 (backwards (n ∷ rest))) refl)
  where
    by_tied : (tied : Bool) → is_tied 20 (backwards (n ∷ rest)) ≡ tied → tied ≡ false
    by_tied true is = absurd (false_true (sym untied ∙ ap (is_tied 20) (comes_before before n rest).same
        ∙ tied_more 20 (backwards (n ∷ rest)) (comes_before before n rest).others is))
    by_tied false is = refl

first_false : (s t : Bool) → (s || t) ≡ false → s ≡ false
first_false s t is = grind (arith, nat_tests, is)

-- where a thread is tied at its start alone, a tie at its end is what is taken away
end_alone : (len : ℕ) (thread : List ThreadNeedle) → IsTieLength len → is_tied 20 thread ≡ true → is_tied 20 (backwards thread) ≡ false
    → bared_thread (thread ++ reverse (tie_of len (backwards thread))) ≡ bared_thread thread
end_alone len (a ∷ b ∷ c ∷ d ∷ e ∷ rest) is tied untied = by_own (has_own_tie (a ∷ b ∷ c ∷ d ∷ e ∷ rest)) refl
  where
    by_own : (own : Bool) → has_own_tie (a ∷ b ∷ c ∷ d ∷ e ∷ rest) ≡ own
        → bared_thread ((a ∷ b ∷ c ∷ d ∷ e ∷ rest) ++ reverse (tie_of len (backwards (a ∷ b ∷ c ∷ d ∷ e ∷ rest))))
        ≡ bared_thread (a ∷ b ∷ c ∷ d ∷ e ∷ rest)
    by_own true own = rw own (end_taken len (a ∷ b ∷ c ∷ d ∷ []) e rest is ∙ sym (last_untied (a ∷ b ∷ c ∷ d ∷ []) e rest untied))
    by_own false own = rw own (end_taken len [] a (b ∷ c ∷ d ∷ e ∷ rest) is ∙ sym (end_stays (a ∷ b ∷ c ∷ d ∷ e ∷ rest) untied))
end_alone len (a ∷ b ∷ c ∷ d ∷ []) is tied untied =
    rw (none (reverse (tie_of len (backwards (a ∷ b ∷ c ∷ d ∷ []))))) (end_taken len [] a (b ∷ c ∷ d ∷ []) is)
    ∙ sym (end_stays (a ∷ b ∷ c ∷ d ∷ []) untied)
  where
    no_five : (e : ThreadNeedle) → are_tie_needles a b c d e ≡ false
    no_five e = by_own (are_tie_needles a b c d e) refl
      where
        by_own : (own : Bool) → are_tie_needles a b c d e ≡ own → own ≡ false
        by_own true own = absurd (false_true (sym untied ∙ four_tied a b c d e own))
        by_own false own = refl

    none : (later : List ThreadNeedle) → has_own_tie ((a ∷ b ∷ c ∷ d ∷ []) ++ later) ≡ false
    none [] = refl
    none (e ∷ later) = no_five e
end_alone len (a ∷ b ∷ c ∷ []) is tied untied = absurd (omega (arith, tied_long 20 a (b ∷ c ∷ []) tied))
end_alone len (a ∷ b ∷ []) is tied untied = absurd (omega (arith, tied_long 20 a (b ∷ []) tied))
end_alone len (a ∷ []) is tied untied = absurd (omega (arith, tied_long 20 a [] tied))
end_alone len [] is tied untied = cc

-- a needle that no thread floats to
sewn_is : (n : ThreadNeedle) → n.float ≡ false → n ≡ sewn_to n.at
sewn_is n is = ap (with_float n.at) is
  where
    with_float : Point → Bool → ThreadNeedle
    with_float p float = record { at = p; float = float }

-- a tie before a thread that isn't tied at its start is what is taken away
start_taken : (len : ℕ) (p : Point) (rest later : List ThreadNeedle) → IsTieLength len
    → bared_start (tie_of len (sewn_to p ∷ rest) ++ (sewn_to p ∷ later)) ≡ sewn_to p ∷ later
start_taken len p rest later is = rw (own_put p (tie_point len p rest) later (tie_length_fits len p rest is)) refl

bared_tied_from : (len : ℕ) (p : Point) (rest : List ThreadNeedle) (start end : Bool) → IsTieLength len
    → is_tied 20 (sewn_to p ∷ rest) ≡ start → (is_tied 20 (backwards (sewn_to p ∷ rest)) || is_single (sewn_to p ∷ rest)) ≡ end
    → bared_thread (tied_thread len (sewn_to p ∷ rest)) ≡ bared_thread (sewn_to p ∷ rest)
bared_tied_from len p rest true true is tied ended =
    rw (tied, ended) (ap bared_thread (append-nil (sewn_to p ∷ rest)))
bared_tied_from len p rest true false is tied ended =
    rw (tied, ended) (end_alone len (sewn_to p ∷ rest) is tied (first_false _ _ ended))
bared_tied_from len p rest false true is untied ended =
    rw (untied, ended) (ap bared_end (ap (λ ns. bared_start (tie_of len (sewn_to p ∷ rest) ++ ns)) (append-nil (sewn_to p ∷ rest))
    ∙ start_taken len p rest rest is) ∙ sym (ap bared_end (start_stays (own_none (sewn_to p ∷ rest) untied))))
  where
    start_stays : has_own_tie (sewn_to p ∷ rest) ≡ false → bared_start (sewn_to p ∷ rest) ≡ sewn_to p ∷ rest
    start_stays none = rw none refl
bared_tied_from len p rest false false is untied ended =
    rw (untied, ended) (ap bared_end (start_taken len p rest (rest ++ reverse (tie_of len (backwards (sewn_to p ∷ rest)))) is)
    ∙ end_taken len [] (sewn_to p) rest is ∙ sym (end_stays (sewn_to p ∷ rest) (first_false _ _ ended))
    ∙ sym (ap bared_end (start_stays (own_none (sewn_to p ∷ rest) untied))))
  where
    start_stays : has_own_tie (sewn_to p ∷ rest) ≡ false → bared_start (sewn_to p ∷ rest) ≡ sewn_to p ∷ rest
    start_stays none = rw none refl

-- taking ties away gives the same before and after tying
pub bared_tied : (len : ℕ) (thread : List ThreadNeedle) → IsTieLength len → is_floated_to thread ≡ false
    → bared_thread (tied_thread len thread) ≡ bared_thread thread
bared_tied len [] is sewn = refl
bared_tied len (n ∷ rest) is sewn = subst (λ (m : ThreadNeedle). bared_thread (tied_thread len (m ∷ rest)) ≡ bared_thread (m ∷ rest))
    (sym (sewn_is n sewn)) (bared_tied_from len n.at rest _ _ is refl refl)

-- a tied thread is tied at its start
start_tied_from : (len : ℕ) (p : Point) (rest : List ThreadNeedle) (start : Bool) → IsTieLength len
    → is_tied 20 (sewn_to p ∷ rest) ≡ start → is_tied 20 (tied_thread len (sewn_to p ∷ rest)) ≡ true
start_tied_from len p rest true is tied = rw tied (tied_more 20 (sewn_to p ∷ rest) (reverse (end_tie len (sewn_to p ∷ rest))) tied)
start_tied_from len p rest false is untied = rw untied
    (own_tied (tie_needles p (tie_point len p rest) ++ sewn_to p ∷ (rest ++ reverse (end_tie len (sewn_to p ∷ rest))))
    (own_put p (tie_point len p rest) (rest ++ reverse (end_tie len (sewn_to p ∷ rest))) (tie_length_fits len p rest is)))

-- a tied thread is tied at its end
end_tied_from : (len : ℕ) (before : List ThreadNeedle) (p : Point) (rest : List ThreadNeedle) (end : Bool) → IsTieLength len
    → is_tied 20 (backwards (sewn_to p ∷ rest)) ≡ end
    → is_tied 20 (backwards (before ++ ((sewn_to p ∷ rest) ++ reverse (if end then [] else tie_of len (backwards (sewn_to p ∷ rest))))))
    ≡ true
end_tied_from len before p rest true is tied =
    ap (λ ns. is_tied 20 (backwards (before ++ ns))) (append-nil (sewn_to p ∷ rest))
    ∙ ap (is_tied 20) (comes_before before (sewn_to p) rest).same
    ∙ tied_more 20 (backwards (sewn_to p ∷ rest)) (comes_before before (sewn_to p) rest).others tied
end_tied_from len before p rest false is untied =
    rw (has_last (sewn_to p) rest).same (ap (λ ns. is_tied 20 (backwards ns)) (sym (append_assoc before (sewn_to p ∷ rest) _))
    ∙ ap (is_tied 20) (backwards_tied (before ++ sewn_to p ∷ rest) last q
    ∙ ap (λ ns. tie_needles last q ++ ns) (last_of before (sewn_to p) rest))
    ∙ own_tied (tie_needles last q ++ sewn_to last ∷ others)
    (own_put last q others (tie_length_fits len last (has_last (sewn_to p) rest).others is)))
  where
    last : Point
    last = (has_last (sewn_to p) rest).last

    others : List ThreadNeedle
    others = (has_last (sewn_to p) rest).others ++ (comes_before before (sewn_to p) rest).others

    q : Point
    q = tie_point len last (has_last (sewn_to p) rest).others

both_ends_from : (len : ℕ) (p : Point) (rest : List ThreadNeedle) → IsTieLength len
    → is_tied 20 (backwards (tied_thread len (sewn_to p ∷ rest))) ≡ true
both_ends_from len p [] is = own_tied (tie_needles p (tie_point len p []) ++ sewn_to p ∷ [])
    (own_put p (tie_point len p []) [] (tie_length_fits len p [] is))
both_ends_from len p (n ∷ rest) is = by_end (is_tied 20 (backwards (sewn_to p ∷ n ∷ rest))) refl
  where
    by_end : (end : Bool) → is_tied 20 (backwards (sewn_to p ∷ n ∷ rest)) ≡ end
        → is_tied 20 (backwards (start_tie len (sewn_to p ∷ n ∷ rest) ++ ((sewn_to p ∷ n ∷ rest)
        ++ reverse (if end || false then [] else tie_of len (backwards (sewn_to p ∷ n ∷ rest)))))) ≡ true
    by_end true tied = end_tied_from len (start_tie len (sewn_to p ∷ n ∷ rest)) p (n ∷ rest) true is tied
    by_end false untied = end_tied_from len (start_tie len (sewn_to p ∷ n ∷ rest)) p (n ∷ rest) false is untied

-- both ends of a tied thread are tied
pub ends_tied : (len : ℕ) (thread : List ThreadNeedle) → IsTieLength len → is_floated_to thread ≡ false → 1 ≤ length thread
    → (is_tied 20 (tied_thread len thread) ≡ true) × (is_tied 20 (backwards (tied_thread len thread)) ≡ true)
ends_tied len [] is sewn some = absurd (omega (arith, some))
ends_tied len (n ∷ rest) is sewn some = subst
    (λ (m : ThreadNeedle). (is_tied 20 (tied_thread len (m ∷ rest)) ≡ true) × (is_tied 20 (backwards (tied_thread len (m ∷ rest))) ≡ true))
    (sym (sewn_is n sewn)) (start_tied_from len n.at rest _ is refl, both_ends_from len n.at rest is)

-- tying a thread that is tied changes nothing
stays_tied : (len : ℕ) (thread : List ThreadNeedle) → is_tied 20 thread ≡ true → is_tied 20 (backwards thread) ≡ true
    → tied_thread len thread ≡ thread
stays_tied len thread start end = rw (start, end) (append-nil thread)

pub tied_twice : (again len : ℕ) (thread : List ThreadNeedle) → IsTieLength len → is_floated_to thread ≡ false
    → tied_thread again (tied_thread len thread) ≡ tied_thread len thread
tied_twice again len [] is sewn = refl
tied_twice again len (n ∷ rest) is sewn =
    let both = ends_tied len (n ∷ rest) is sewn (omega arith) in stays_tied again (tied_thread len (n ∷ rest)) both.0 both.1

-- spans up to the last needle, and those after it
pub spans_more : (square : ℕ) (n : ThreadNeedle) (rest later : List ThreadNeedle) → are_spans_within square (n ∷ rest) ≡ true
    → are_spans_within square (sewn_to (has_last n rest).last ∷ later) ≡ true → are_spans_within square ((n ∷ rest) ++ later) ≡ true
unfolding has_last next_last
spans_more square n [] [] first second = refl
spans_more square n [] (m ∷ later) first second = second
spans_more square n (m ∷ rest) later first second =
    let here = first_true (nat_le (square_of n.at m.at) square) (are_spans_within square (m ∷ rest)) first in
    let there = second_true (nat_le (square_of n.at m.at) square) (are_spans_within square (m ∷ rest)) first in
    rw here (spans_more square m rest later there second)
