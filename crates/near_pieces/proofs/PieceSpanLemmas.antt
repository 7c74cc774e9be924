-- The pieces of lines that come piece after piece, in whatever order the pieces are.
use Rattle.std.proofs.Common.{◌≡◌, ◌≢◌, ◌∙◌, ◌<◌, ◌≤◌, ◌+◌, ◌-◌, inl, inr, ℕ, zero, suc, List, [], ◌∷◌, ◌++◌, Some, length, map, get_or, slice_get, All, AllPairs, Contains, refl, ap, sym, subst, arith, length-append, get_or-append-add}
use Rattle.std.proofs.lemmas.Bool.{cases_lt}
use Rattle.std.proofs.lemmas.Grind.{get_or_default_zero}
use Rattle.std.proofs.lemmas.List.{get_or_append_left}
use Rattle.std.proofs.lemmas.List.Elements.{All-append, All-cons, All-head, All-nil, All-tail, Contains-append_left, Contains-append_right}
use Rattle.std.proofs.lemmas.List.Kept.{AllPairs-cons, AllPairs-from_increasing}
use Rattle.std.specs.List.{concat, slice_index}
use Rattle.std.specs.List.Sorted.{IsStrictlyIncreasing}
use Rattle.design_model.proofs.ListLemmas.{pairs_tail, range_rises}
use Rattle.line_graph.specs.Pieces.{AreConnected, ArePieces, IsPathOfLines, LinesTouch, first_line}
use Rattle.near_pieces.proofs.Names.{get_or-range_with_len, length-range_with_len, range_with_len, slice_get-get_or, slice_get_within, DrawingValue, LineValue, if_there, lines_numbered}

-- Ranges of indexes that are as long as the given lists, from an index on.
abbrev pub spans : ℕ → List (List ℕ) → List (List ℕ)
spans at [] = []
spans at (piece ∷ rest) = range_with_len at (length piece) ∷ spans (at + length piece) rest

abbrev pub no_line : LineValue
no_line = record { block = 0; points = [] }

-- What lines are at the given indexes: as many as these, each at its index.
pub length_numbered : (lines : List LineValue) (some : List ℕ) → All (λ i. i < length lines) some
    → length (lines_numbered lines some) ≡ length some
length_numbered lines [] there = refl
length_numbered lines (i ∷ some) there =
    let at : slice_get lines i ≡ Some (get_or lines i no_line) =
    slice_get-get_or lines i no_line (All-head (λ i. i < length lines) i some there) in
    ap (λ o. length (if_there o ++ lines_numbered lines some)) at
    ∙ ap suc (length_numbered lines some (All-tail (λ i. i < length lines) i some there))

pub numbered_at : (lines : List LineValue) (some : List ℕ) (k : ℕ) → All (λ i. i < length lines) some → k < length some
    → slice_get (lines_numbered lines some) k ≡ slice_get lines (get_or some k 0)
numbered_at lines [] k there below = absurd (omega (arith, below))
numbered_at lines (i ∷ some) zero there below =
    let at : slice_get lines i ≡ Some (get_or lines i no_line) =
    slice_get-get_or lines i no_line (All-head (λ i. i < length lines) i some there) in
    ap (λ o. slice_get (if_there o ++ lines_numbered lines some) 0) at ∙ sym at
numbered_at lines (i ∷ some) (suc k) there below =
    let at : slice_get lines i ≡ Some (get_or lines i no_line) =
    slice_get-get_or lines i no_line (All-head (λ i. i < length lines) i some there) in
    ap (λ o. slice_get (if_there o ++ lines_numbered lines some) (suc k)) at
    ∙ numbered_at lines some k (All-tail (λ i. i < length lines) i some there) (omega (arith, below))

-- Lists of lines are the same where their items are.
pub numbered_alike : (lines others : List LineValue) (at : ℕ) (some : List ℕ)
    → ((k : ℕ) → k < length some → slice_get others (at + k) ≡ slice_get lines (get_or some k 0))
    → lines_numbered others (range_with_len at (length some)) ≡ lines_numbered lines some
numbered_alike lines others at [] same = refl
numbered_alike lines others at (i ∷ some) same =
    ap (λ o. if_there o ++ lines_numbered others (range_with_len (at + 1) (length some)))
    (ap (slice_get others) (omega arith) ∙ same 0 (omega arith))
    ∙ ap (λ more. if_there (slice_get lines i) ++ more) (numbered_alike lines others (at + 1) some (λ k below.
    ap (slice_get others) (omega arith) ∙ same (suc k) (omega (arith, below))))

-- Ranges one after another have the indexes from the first on, and no others.
spans_below : (n at : ℕ) (some : List (List ℕ)) → at + length (concat some) ≤ n → All (λ line. line < n) (concat (spans at some))
spans_below n at [] within = All-nil _
spans_below n at (piece ∷ rest) within = All-append (λ line. line < n) (range_with_len at (length piece))
    (concat (spans (at + length piece) rest))
    (λ k e below. omega (
      arith,
      within,
      length-append piece (concat rest),
      below,
      length-range_with_len at (length piece),
      get_or-range_with_len at (length piece) k e (omega (arith, below, length-range_with_len at (length piece))),
    ))
    (spans_below n (at + length piece) rest (omega (arith, within, length-append piece (concat rest))))

spans_have : (line at : ℕ) (some : List (List ℕ)) → at ≤ line → line < at + length (concat some) → Contains (concat (spans at some)) line
spans_have line at [] from to = absurd (omega (arith, from, to))
spans_have line at (piece ∷ rest) from to = elim (cases_lt line (at + length piece)) [
  | inl here ↦ Contains-append_left (range_with_len at (length piece)) (concat (spans (at + length piece) rest)) line (
      let is : at + (line - at) ≡ line = omega (arith, from) in (
        line - at,
        omega (arith, from, here, length-range_with_len at (length piece)),
        get_or-range_with_len at (length piece) (line - at) line (omega (arith, from, here)) ∙ is,
      ))
  | inr later ↦ Contains-append_right (range_with_len at (length piece)) (concat (spans (at + length piece) rest)) line
      (spans_have line (at + length piece) rest later (omega (arith, to, length-append piece (concat rest))))
]

-- Pieces in any order: each line is in one of them, and two lines in one exactly where they are connected.
pub record ArePiecesInOrder (d : DrawingValue) (order : List (List ℕ)) : Type 0 where
  pub filled : All (λ piece. piece ≢ []) order
  pub there : All (λ line. line < length d.lines) (concat order)
  pub covered : (line : ℕ) → line < length d.lines → Contains (concat order) line
  pub joined : All (λ piece. All (AreConnected d (first_line piece)) piece) order
  pub apart : AllPairs (λ a b. AreConnected d (first_line a) (first_line b) → ⊥) order
  pub rising : All IsStrictlyIncreasing order

module _ (d : DrawingValue) (order : List (List ℕ)) (are : ArePiecesInOrder d order) where
  abbrev all : List ℕ
  all = concat order

  abbrev new : DrawingValue
  new = record d { lines = lines_numbered d.lines all }

  -- The line of the drawing that is at an index now.
  abbrev old : ℕ → ℕ
  old k = get_or all k 0

  within : (k : ℕ) (line : LineValue) → slice_get new.lines k ≡ Some line → k < length all
  within k line is = omega (arith, slice_get_within new.lines k line is, length_numbered d.lines all are.there)

  touch_back : (k l : ℕ) → LinesTouch new k l → LinesTouch d (old k) (old l)
  touch_back k l t = record {
    one = t.one;
    other = t.other;
    one_is = sym (numbered_at d.lines all k are.there (within k t.one t.one_is)) ∙ t.one_is;
    other_is = sym (numbered_at d.lines all l are.there (within l t.other t.other_is)) ∙ t.other_is;
    touch = t.touch;
  }

  touch_there : (k l : ℕ) → k < length all → l < length all → LinesTouch d (old k) (old l) → LinesTouch new k l
  touch_there k l one two t = record {
    one = t.one;
    other = t.other;
    one_is = numbered_at d.lines all k are.there one ∙ t.one_is;
    other_is = numbered_at d.lines all l are.there two ∙ t.other_is;
    touch = t.touch;
  }

  connected_back : (k : ℕ) (chain : List ℕ) (l : ℕ) → IsPathOfLines new k chain l → AreConnected d (old k) (old l)
  connected_back k [] l is = ([], ap old is)
  connected_back k (m ∷ rest) l (touch, later) =
      let more = connected_back m rest l later in (old m ∷ more.0, (touch_back k m touch, more.1))

  connected_on : (k l i : ℕ) (chain : List ℕ) → k < length all → l < length all → LinesTouch d (old k) i
      → IsPathOfLines d i chain (old l) → AreConnected new k l
  connected_on k l i [] one two touch is = (l ∷ [], (touch_there k l one two (subst (LinesTouch d (old k)) is touch), refl))
  connected_on k l i (m ∷ rest) one two touch (next, later) =
      let found : Contains all i = are.covered i (slice_get_within d.lines i touch.other touch.other_is) in
      let n : ℕ = found.0 in
      let at : old n ≡ i = sym (get_or_default_zero all n i found.1) ∙ found.2 in
      let more = connected_on n l m rest found.1 two (subst (λ j. LinesTouch d j m) (sym at) next) later in
      (n ∷ more.0, (touch_there k n one found.1 (subst (LinesTouch d (old k)) (sym at) touch), more.1))

  -- Lines that were connected are, unless they are one line twice.
  connected_there : (k l : ℕ) → k < length all → l < length all → (old k ≡ old l → k ≡ l) → AreConnected d (old k) (old l)
      → AreConnected new k l
  connected_there k l one two same ([], is) = ([], same is)
  connected_there k l one two same (i ∷ chain, (touch, later)) = connected_on k l i chain one two touch later

  -- The lines of pieces are at indexes from one on.
  abbrev Sit : ℕ → List (List ℕ) → Type 0
  Sit at some = (k : ℕ) → k < length (concat some) → (at + k < length all) × (old (at + k) ≡ get_or (concat some) k 0)

  sit_after : (at : ℕ) (piece : List ℕ) (rest : List (List ℕ)) → Sit at (piece ∷ rest) → Sit (at + length piece) rest
  sit_after at piece rest sit k below =
      let place : at + (length piece + k) ≡ at + length piece + k = omega arith in
      let one = sit (length piece + k) (omega (arith, below, length-append piece (concat rest))) in
      (omega (arith, one.0), ap old (sym place) ∙ one.1 ∙ get_or-append-add piece (concat rest) k 0)

  sit_first : (at : ℕ) (piece : List ℕ) (rest : List (List ℕ)) → Sit at (piece ∷ rest) → (k : ℕ) → k < length piece
      → (at + k < length all) × (old (at + k) ≡ get_or piece k 0)
  sit_first at piece rest sit k below =
      let one = sit k (omega (arith, below, length-append piece (concat rest))) in
      (one.0, one.1 ∙ get_or_append_left piece (concat rest) 0 k below)

  first_is : (at : ℕ) (piece : List ℕ) → piece ≢ [] → (first_line (range_with_len at (length piece)) ≡ at)
      × (first_line piece ≡ get_or piece 0 0) × (0 < length piece)
  first_is at [] some = absurd (some refl)
  first_is at (i ∷ piece) some = (refl, refl, omega arith)

  not_empty : (at : ℕ) (piece : List ℕ) → piece ≢ [] → range_with_len at (length piece) ≢ []
  not_empty at piece some none =
      omega (arith, (first_is at piece some).2, ap length none, length-range_with_len at (length piece))

  joined_span : (at : ℕ) (piece : List ℕ) → piece ≢ [] → IsStrictlyIncreasing piece → All (AreConnected d (first_line piece)) piece
      → ((k : ℕ) → k < length piece → (at + k < length all) × (old (at + k) ≡ get_or piece k 0))
      → All (AreConnected new (first_line (range_with_len at (length piece)))) (range_with_len at (length piece))
  joined_span at piece some rising joined sit k e below =
      subst (λ m. AreConnected new m (get_or (range_with_len at (length piece)) k e)) (sym first.0)
      (subst (AreConnected new at) (sym (get_or-range_with_len at (length piece) k e inside))
      (connected_there at (at + k) (omega (arith, here.0)) there.0 (once k inside)
      (subst (λ i. AreConnected d i (old (at + k))) (first.1 ∙ sym at_first)
      (subst (AreConnected d (first_line piece)) (sym there.1) (joined k 0 inside)))))
    where
      inside : k < length piece
      inside = omega (arith, below, length-range_with_len at (length piece))

      first : (first_line (range_with_len at (length piece)) ≡ at) × (first_line piece ≡ get_or piece 0 0) × (0 < length piece)
      first = first_is at piece some

      here : (at + 0 < length all) × (old (at + 0) ≡ get_or piece 0 0)
      here = sit 0 first.2

      at_first : old at ≡ get_or piece 0 0
      at_first = ap old (omega arith) ∙ here.1

      there : (at + k < length all) × (old (at + k) ≡ get_or piece k 0)
      there = sit k inside

      once : (k : ℕ) → k < length piece → old at ≡ old (at + k) → at ≡ at + k
      once zero inside is = omega arith
      once (suc k) inside is = absurd (omega (
        arith,
        is,
        at_first,
        (sit (suc k) inside).1,
        AllPairs-from_increasing piece rising 0 (suc k) 0 (omega arith) inside,
      ))

  joined_spans : (at : ℕ) (some : List (List ℕ)) → Sit at some → All (λ piece. piece ≢ []) some → All IsStrictlyIncreasing some
      → All (λ piece. All (AreConnected d (first_line piece)) piece) some
      → All (λ span. All (AreConnected new (first_line span)) span) (spans at some)
  joined_spans at [] sit filled rising joined = All-nil _
  joined_spans at (piece ∷ rest) sit filled rising joined =
      All-cons (λ span. All (AreConnected new (first_line span)) span) (range_with_len at (length piece)) (spans (at + length piece) rest)
      (joined_span at piece (All-head (λ p. p ≢ []) piece rest filled) (All-head IsStrictlyIncreasing piece rest rising)
      (All-head (λ p. All (AreConnected d (first_line p)) p) piece rest joined) (sit_first at piece rest sit))
      (joined_spans (at + length piece) rest (sit_after at piece rest sit) (All-tail (λ p. p ≢ []) piece rest filled)
      (All-tail IsStrictlyIncreasing piece rest rising) (All-tail (λ p. All (AreConnected d (first_line p)) p) piece rest joined))

  -- What is apart from the first lines of pieces is apart from those of their ranges.
  apart_from : (k : ℕ) (at : ℕ) (some : List (List ℕ)) → Sit at some → All (λ piece. piece ≢ []) some
      → All (λ piece. AreConnected d (old k) (first_line piece) → ⊥) some
      → All (λ span. AreConnected new k (first_line span) → ⊥) (spans at some)
  apart_from k at [] sit filled apart = All-nil _
  apart_from k at (piece ∷ rest) sit filled apart =
      All-cons (λ span. AreConnected new k (first_line span) → ⊥) (range_with_len at (length piece)) (spans (at + length piece) rest)
      (λ joined. All-head (λ p. AreConnected d (old k) (first_line p) → ⊥) piece rest apart (led joined))
      (apart_from k (at + length piece) rest (sit_after at piece rest sit) (All-tail (λ p. p ≢ []) piece rest filled)
      (All-tail (λ p. AreConnected d (old k) (first_line p) → ⊥) piece rest apart))
    where
      first : (first_line (range_with_len at (length piece)) ≡ at) × (first_line piece ≡ get_or piece 0 0) × (0 < length piece)
      first = first_is at piece (All-head (λ p. p ≢ []) piece rest filled)

      led : AreConnected new k (first_line (range_with_len at (length piece))) → AreConnected d (old k) (first_line piece)
      led joined =
          let place : at + 0 ≡ at = omega arith in
          subst (AreConnected d (old k)) (ap old (first.0 ∙ sym place) ∙ (sit_first at piece rest sit 0 first.2).1 ∙ sym first.1)
          (connected_back k joined.0 (first_line (range_with_len at (length piece))) joined.1)

  apart_spans : (at : ℕ) (some : List (List ℕ)) → Sit at some → All (λ piece. piece ≢ []) some
      → AllPairs (λ a b. AreConnected d (first_line a) (first_line b) → ⊥) some
      → AllPairs (λ a b. AreConnected new (first_line a) (first_line b) → ⊥) (spans at some)
  apart_spans at [] sit filled apart = λ i j e less below. absurd (omega (arith, below))
  apart_spans at (piece ∷ rest) sit filled apart =
      AllPairs-cons (λ a b. AreConnected new (first_line a) (first_line b) → ⊥) (range_with_len at (length piece))
      (spans (at + length piece) rest)
      (subst (λ m. All (λ span. AreConnected new m (first_line span) → ⊥) (spans (at + length piece) rest)) (sym first.0)
      (apart_from at (at + length piece) rest (sit_after at piece rest sit) (All-tail (λ p. p ≢ []) piece rest filled)
      (subst (λ i. All (λ p. AreConnected d i (first_line p) → ⊥) rest) (sym at_first)
      (λ k e below. apart 0 (suc k) e (omega arith) (omega (arith, below))))))
      (apart_spans (at + length piece) rest (sit_after at piece rest sit) (All-tail (λ p. p ≢ []) piece rest filled)
      (pairs_tail (λ a b. AreConnected d (first_line a) (first_line b) → ⊥) piece rest apart))
    where
      first : (first_line (range_with_len at (length piece)) ≡ at) × (first_line piece ≡ get_or piece 0 0) × (0 < length piece)
      first = first_is at piece (All-head (λ p. p ≢ []) piece rest filled)

      at_first : old at ≡ first_line piece
      at_first =
          let place : at ≡ at + 0 = omega arith in
          ap old place ∙ (sit_first at piece rest sit 0 first.2).1 ∙ sym first.1

  filled_spans : (at : ℕ) (some : List (List ℕ)) → All (λ piece. piece ≢ []) some → All (λ span. span ≢ []) (spans at some)
  filled_spans at [] filled = All-nil _
  filled_spans at (piece ∷ rest) filled = All-cons (λ span. span ≢ []) (range_with_len at (length piece)) (spans (at + length piece) rest)
      (not_empty at piece (All-head (λ p. p ≢ []) piece rest filled))
      (filled_spans (at + length piece) rest (All-tail (λ p. p ≢ []) piece rest filled))

  rising_spans : (at : ℕ) (some : List (List ℕ)) → All IsStrictlyIncreasing (spans at some)
  rising_spans at [] = All-nil _
  rising_spans at (piece ∷ rest) = All-cons IsStrictlyIncreasing (range_with_len at (length piece)) (spans (at + length piece) rest)
      (range_rises at (length piece)) (rising_spans (at + length piece) rest)

  ordered_spans : (at : ℕ) (some : List (List ℕ)) → All (λ piece. piece ≢ []) some
      → IsStrictlyIncreasing (map first_line (spans at some))
  ordered_spans at [] filled k below = absurd (omega (arith, below))
  ordered_spans at (piece ∷ []) filled k below = absurd (omega (arith, below))
  ordered_spans at (piece ∷ next ∷ rest) filled zero below =
      let one = first_is at piece (All-head (λ p. p ≢ []) piece (next ∷ rest) filled) in
      let two = first_is (at + length piece) next (All-head (λ p. p ≢ []) next rest (All-tail (λ p. p ≢ []) piece (next ∷ rest) filled)) in
      omega (arith, one.0, one.2, two.0)
  ordered_spans at (piece ∷ next ∷ rest) filled (suc k) below =
      let later = spans (at + length piece) (next ∷ rest) in
      let longer : suc (k + 1) ≡ suc k + 1 = omega arith in
      subst (λ m. slice_index (map first_line later) k < slice_index (first_line
      (range_with_len at (length piece)) ∷ map first_line later) m) longer
      (ordered_spans (at + length piece) (next ∷ rest) (All-tail (λ p. p ≢ []) piece (next ∷ rest) filled) k (omega (arith, below)))

  sit_all : Sit 0 order
  sit_all k below = let place : 0 + k ≡ k = omega arith in (omega (arith, below), ap old place)

  as_many : length new.lines ≡ length all
  as_many = length_numbered d.lines all are.there

  lines_covered : (line : ℕ) → line < length new.lines → Contains (concat (spans 0 order)) line
  lines_covered line below = spans_have line 0 order (omega arith) (omega (arith, below, as_many))

  -- The ranges of the pieces are the pieces of the lines.
  pub spans_are_pieces : ArePieces new (spans 0 order)
  spans_are_pieces = record {
    filled = filled_spans 0 order are.filled;
    there = spans_below (length new.lines) 0 order (omega (arith, as_many));
    covered = lines_covered;
    joined = joined_spans 0 order sit_all are.filled are.rising are.joined;
    apart = apart_spans 0 order sit_all are.filled are.apart;
    rising = rising_spans 0 order;
    ordered = ordered_spans 0 order are.filled;
  }

  lines_alike : (at : ℕ) (some : List (List ℕ)) → Sit at some
      → map (lines_numbered new.lines) (spans at some) ≡ map (lines_numbered d.lines) some
  lines_alike at [] sit = refl
  lines_alike at (piece ∷ rest) sit =
      ap (λ ls. ls ∷ map (lines_numbered new.lines) (spans (at + length piece) rest))
      (numbered_alike d.lines new.lines at piece (λ k below.
      let one = sit_first at piece rest sit k below in
      numbered_at d.lines all (at + k) are.there one.0 ∙ ap (slice_get d.lines) one.1))
      ∙ ap (λ more. lines_numbered d.lines piece ∷ more) (lines_alike (at + length piece) rest (sit_after at piece rest sit))

  -- Each piece has its lines.
  pub spans_have_lines : map (lines_numbered new.lines) (spans 0 order) ≡ map (lines_numbered d.lines) order
  spans_have_lines = lines_alike 0 order sit_all
