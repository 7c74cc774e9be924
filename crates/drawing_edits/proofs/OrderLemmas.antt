-- The lines with a piece moved before a line are the lines of the drawing in another order.
use Rattle.std.proofs.Common.{◌≡◌, ◌<◌, ◌≤◌, ℕ, ◌+◌, ◌-◌, ◌==◌, Bool, true, false, not, ◌&&◌, ◌||◌, cond, List, [], ◌∷◌, ◌++◌, length, map, filter, get_or, slice_get, Option, Some, None, option_map, Ok, Err, nat_lt, All, IsPermutation, append_assoc, arith, refl, sym, ◌∙◌, ap, subst}
use Rattle.std.proofs.lemmas.Map.Keys.{any_passes_from_place}
use Rattle.drawing_edits.proofs.Names.{nat_tests, All-filter, All-head, All-tail, filter_passes, get_or-range_with_len, length-range_with_len, slice_get-get_or, slice_get-map, list_any, range_with_len, DrawingValue, optional_line_points, and_then, first_line, LineValue, are_in_one_piece, found_piece, is_first_of_piece, line_numbered, lines_outside, order_with_piece, ordered_lines, piece_of_line, pieces_in_order, filter-append, fill_by_all, IsPermutation-append, IsPermutation-append_comm, IsPermutation-filter_both, IsPermutation-map, IsPermutation-refl, IsPermutation-trans, get_or_from_slice_get, slice_get_within, block_of, optional_line_block, OrdersKeepLines, lines_with_piece}
use Rattle.drawing_edits.specs.declared.edit_fault.EditFault.TheVariants as fault
use Rattle.drawing_edits.proofs.RangeLemmas.{range_below, range_parts}

-- Tests that agree on a list keep the same items of it.
filter_alike : (p q : ℕ → Bool) (xs : List ℕ) → All (λ x. p x ≡ q x) xs → filter p xs ≡ filter q xs
filter_alike p q [] same = refl
filter_alike p q (x ∷ xs) same = rw (
  All-head (λ x. p x ≡ q x) x xs same,
  filter_alike p q xs (All-tail (λ x. p x ≡ q x) x xs same),
) refl

-- A number is among those that pass a test where it is in the list and passes.
found_in : (p : ℕ → Bool) (xs : List ℕ) (x : ℕ) → list_any (λ n. n == x) (filter p xs) ≡ (list_any (λ n. n == x) xs && p x)
found_in p [] x = refl
found_in p (y ∷ xs) x = by_tests (p y) (y == x) refl refl (found_in p xs x)
  where
    same : (m n : ℕ) → (m == n) ≡ true → m ≡ n
    same m n is = grind (arith, nat_tests)

    nowhere : (b c : Bool) → b ≡ (c && false) → b ≡ false
    nowhere b true is = is
    nowhere b false is = is

    by_tests : (t u : Bool) → p y ≡ t → (y == x) ≡ u
        → list_any (λ n. n == x) (filter p xs) ≡ (list_any (λ n. n == x) xs && p x)
        → list_any (λ n. n == x) (cond t (y ∷ filter p xs) (filter p xs)) ≡ ((u || list_any (λ n. n == x) xs) && p x)
    by_tests true true passes is rest = rw is (sym (ap p (sym (same y x is)) ∙ passes))
    by_tests false true passes is rest =
        let missed : p x ≡ false = ap p (sym (same y x is)) ∙ passes in
        rw missed (nowhere _ (list_any (λ n. n == x) xs) (rw missed at rest))
    by_tests true false passes is rest = rw is rest
    by_tests false false passes is rest = rest

module _ (d : DrawingValue) (line : ℕ) where
  abbrev one : ℕ → Bool
  one = are_in_one_piece d line

  abbrev other : ℕ → Bool
  other n = not (one n)

  abbrev outside : ℕ → Bool
  outside n = not (list_any (λ m. m == n) (piece_of_line d line))

  in_range : (n : ℕ) → n < length d.lines → list_any (λ m. m == n) (range_with_len 0 (length d.lines)) ≡ true
  in_range n below =
      let all : List ℕ = range_with_len 0 (length d.lines) in
      let within : n < length all = omega (arith, below, length-range_with_len 0 (length d.lines)) in
      let at : get_or all n 0 ≡ n = get_or-range_with_len 0 (length d.lines) n 0 below ∙ omega arith in
      any_passes_from_place (λ m. m == n) all n (get_or all n 0) (slice_get-get_or all n 0 within) (self (get_or all n 0) n at)
    where
      self : (m n : ℕ) → m ≡ n → (m == n) ≡ true
      self m n is = grind (arith, nat_tests)

  -- A line is outside the piece where it is in another one.
  outside_is : (n : ℕ) → n < length d.lines → outside n ≡ other n
  outside_is n below = ap not (found_in one (range_with_len 0 (length d.lines)) n ∙ ap (λ (b : Bool). b && one n) (in_range n below))

  lines_are : d.lines ≡ map (line_numbered d) (range_with_len 0 (length d.lines))
  lines_are = fill_by_all (line_numbered d) d.lines (length d.lines) (record { block = 0; points = [] }) refl numbered
    where
      numbered : (k : ℕ) → k < length d.lines → get_or d.lines k (record { block = 0; points = [] }) ≡ line_numbered d k
      numbered k below =
          let none : LineValue = record { block = 0; points = [] } in
          let is : slice_get d.lines k ≡ Some (get_or d.lines k none) = slice_get-get_or d.lines k none below in
          ap (λ o. record { block = optional_line_block o; points = optional_line_points o }) (sym is)

  -- Two parts of a list, with the items that pass moved between those of each that don't.
  between : (a b : List ℕ) → IsPermutation (a ++ b) (filter other a ++ (filter one (a ++ b) ++ filter other b))
  between a b =
      let first = IsPermutation-trans a (filter one a ++ filter other a) (filter other a ++ filter one a)
      (IsPermutation-filter_both one other (λ n. refl) a) (IsPermutation-append_comm (filter one a) (filter other a)) in
      let both = IsPermutation-append a (filter other a ++ filter one a) b (filter one b ++ filter other b) first
      (IsPermutation-filter_both one other (λ n. refl) b) in
      subst (IsPermutation (a ++ b)) shape both
    where
      shape : (filter other a ++ filter one a) ++ (filter one b ++ filter other b)
          ≡ filter other a ++ (filter one (a ++ b) ++ filter other b)
      shape = append_assoc (filter other a) (filter one a) (filter one b ++ filter other b)
          ∙ ap (λ (ns : List ℕ). filter other a ++ ns) (sym (append_assoc (filter one a) (filter one b) (filter other b))
          ∙ ap (λ (ns : List ℕ). ns ++ filter other b) (sym (filter-append one a b)))

  pub lines_kept : (before : ℕ) → before ≤ length d.lines → IsPermutation d.lines (lines_with_piece d (piece_of_line d line) before)
  lines_kept before within =
      subst (λ (ls : List LineValue). IsPermutation ls (lines_with_piece d (piece_of_line d line) before)) (sym lines_are)
      (IsPermutation-map (line_numbered d) all (order_with_piece (piece_of_line d line) before (length d.lines))
      (subst (λ (ns : List ℕ). IsPermutation ns (order_with_piece (piece_of_line d line) before (length d.lines))) (sym whole)
      (subst (IsPermutation (first ++ second)) (sym order_is) (between first second))))
    where
      all : List ℕ
      all = range_with_len 0 (length d.lines)

      first : List ℕ
      first = range_with_len 0 before

      second : List ℕ
      second = range_with_len before (length d.lines - before)

      whole : all ≡ first ++ second
      whole =
          let count : length d.lines ≡ before + (length d.lines - before) = omega (arith, within) in
          let start : 0 + before ≡ before = omega arith in
          ap (range_with_len 0) count ∙ (range_parts 0 before (length d.lines - before)
          ∙ ap (λ (n : ℕ). first ++ range_with_len n (length d.lines - before)) start)

      at_first : lines_outside (piece_of_line d line) 0 before ≡ filter other first
      at_first =
          let count : before - 0 ≡ before = omega arith in
          ap (λ (n : ℕ). filter outside (range_with_len 0 n)) count
          ∙ filter_alike outside other first (λ k. λ x. λ less.
          outside_is (get_or first k x) (let below = range_below before k x less in omega (arith, below, within)))

      at_second : lines_outside (piece_of_line d line) before (length d.lines) ≡ filter other second
      at_second = filter_alike outside other second (λ k. λ x. λ less.
          outside_is (get_or second k x)
          (let size = length-range_with_len before (length d.lines - before) in
          let at = get_or-range_with_len before (length d.lines - before) k x (omega (arith, size, less)) in
          omega (arith, at, size, less, within)))

      order_is : order_with_piece (piece_of_line d line) before (length d.lines)
          ≡ filter other first ++ (filter one (first ++ second) ++ filter other second)
      order_is =
          ap (λ (ns : List ℕ). ns ++ (piece_of_line d line ++ lines_outside (piece_of_line d line) before (length d.lines))) at_first
          ∙ (ap (λ (ns : List ℕ). filter other first ++ (piece_of_line d line ++ ns)) at_second
          ∙ ap (λ (ns : List ℕ). filter other first ++ (filter one ns ++ filter other second)) whole)

-- A piece by its index is that of a first line.
record IsLed (d : DrawingValue) (piece : List ℕ) : Type 0 where
  line : ℕ
  there : line < length d.lines
  is : piece ≡ piece_of_line d line
  first : first_line piece ≡ line

led : (d : DrawingValue) (index : ℕ) (piece : List ℕ) → slice_get (pieces_in_order d) index ≡ Some piece → IsLed d piece
led d index piece is = by_leader (slice_get leaders index) refl
  where
    all : List ℕ
    all = range_with_len 0 (length d.lines)

    leaders : List ℕ
    leaders = filter (is_first_of_piece d) all

    same : (m n : ℕ) → (m == n) ≡ true → m ≡ n
    same m n is = grind (arith, nat_tests)

    by_leader : (o : Option ℕ) → slice_get leaders index ≡ o → IsLed d piece
    by_leader None at = absurd (let no : None ≡ Some piece =
        ap (option_map (piece_of_line d)) (sym at) ∙ (sym (slice_get-map (piece_of_line d) leaders index) ∙ is) in cc)
    by_leader (Some line) at =
        let below : index < length leaders = slice_get_within leaders index line at in
        let here : get_or leaders index 0 ≡ line = get_or_from_slice_get leaders index line 0 at in
        let same_piece : Some (piece_of_line d line) ≡ Some piece =
        ap (option_map (piece_of_line d)) (sym at) ∙ (sym (slice_get-map (piece_of_line d) leaders index) ∙ is) in
        let piece_is : piece ≡ piece_of_line d line = cc in
        let there = All-filter (is_first_of_piece d) (λ n. n < length d.lines) all (range_below (length d.lines)) index 0 below in
        let leads = filter_passes (is_first_of_piece d) all index 0 below in
        record {
          line = line;
          there = subst (λ (n : ℕ). n < length d.lines) here there;
          is = piece_is;
          first = ap first_line piece_is ∙ same (first_line (piece_of_line d line)) line
              (subst (λ (n : ℕ). is_first_of_piece d n ≡ true) here leads);
        }

-- The lines with one piece before another are those of the drawing in another order.
pub orders_permute : OrdersKeepLines
orders_permute p q d lines answer =
    by_pieces (slice_get (pieces_in_order d) (p - 1)) (slice_get (pieces_in_order d) (q - 1)) refl refl answer
  where
    moved : (one other : List ℕ) → IsLed d one → IsLed d other → IsPermutation d.lines (lines_with_piece d one (first_line other))
    moved one other a b =
        let within : first_line other ≤ length d.lines = omega (arith, b.first, b.there) in
        subst (λ (piece : List ℕ). IsPermutation d.lines (lines_with_piece d piece (first_line other))) (sym a.is)
        (lines_kept d a.line (first_line other) within)

    by_tests : (equal apart less : Bool) (some : List LineValue) → IsPermutation d.lines some
        → cond equal (Err fault.SamePiece) (cond apart (Err fault.OtherBlock) (cond less (Ok d.lines) (Ok some))) ≡ Ok lines
        → IsPermutation d.lines lines
    by_tests true apart less some other is = absurd (let no : ⊥ = cc in no)
    by_tests false true less some other is = absurd (let no : ⊥ = cc in no)
    by_tests false false true some other is =
        let same : d.lines ≡ lines = cc in subst (IsPermutation d.lines) same (IsPermutation-refl d.lines)
    by_tests false false false some other is = let same : some ≡ lines = cc in subst (IsPermutation d.lines) same other

    by_pieces : (o u : Option (List ℕ)) → slice_get (pieces_in_order d) (p - 1) ≡ o → slice_get (pieces_in_order d) (q - 1) ≡ u
        → and_then (found_piece p o) (λ one. and_then (found_piece q u) (λ other. ordered_lines p q one other d)) ≡ Ok lines
        → IsPermutation d.lines lines
    by_pieces None u one_is other_is is = absurd (let no : ⊥ = cc in no)
    by_pieces (Some one) None one_is other_is is = absurd (let no : ⊥ = cc in no)
    by_pieces (Some one) (Some other) one_is other_is is = by_tests (p == q)
        (not (block_of d (first_line one) == block_of d (first_line other))) (nat_lt p q) (lines_with_piece d one (first_line other))
        (moved one other (led d (p - 1) one one_is) (led d (q - 1) other other_is)) is
