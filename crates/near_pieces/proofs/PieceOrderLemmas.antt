-- Pieces of a drawing in another order, and near lines, which are those of pieces in some order.
use Rattle.std.proofs.Common.{◌≡◌, ◌≢◌, ◌∙◌, ◌==◌, ◌<◌, ◌≤◌, inl, inr, ℕ, suc, Bool, true, false, List, [], ◌∷◌, ◌++◌, Option, Some, None, length, map, get_or, slice_get, if◌then◌else◌, All, AllPairs, Contains, IsPermutation, append_assoc, refl, ap, sym, subst, arith}
use Rattle.std.proofs.lemmas.Bool.{cases_lt}
use Rattle.std.proofs.lemmas.List.Edits.{length-swap, swapped_from_swap}
use Rattle.std.proofs.lemmas.List.Elements.{All-cons, All-head, All-nil, All-tail, Contains-append_cases}
use Rattle.std.proofs.lemmas.List.FromFn.{fill_by_all}
use Rattle.std.proofs.lemmas.List.Sorted.{Contains-permutation, IsPermutation-append, IsPermutation-keeps, IsPermutation-map}
use Rattle.std.specs.List.{concat, swap}
use Rattle.std.specs.List.Sorted.{IsStrictlyIncreasing}
use Rattle.design_model.proofs.ListLemmas.{all_concat, all_left, all_right, concat_has, false_true, number_found, same_number}
use Rattle.design_model.specs.Points.{origin}
use Rattle.line_graph.specs.ConnectedSpots.{SpotsAreConnected}
use Rattle.line_graph.specs.Drawings.{KeepsDrawingLimits, block_of, first_point, optional_line_points, points_of}
use Rattle.line_graph.specs.FirstLines.{IsLineEnd}
use Rattle.line_graph.specs.Pieces.{AreConnected, ArePieces, first_line}
use Rattle.line_graph.specs.PiecesOfDrawings.{lines_of_pieces}
use Rattle.line_graph.specs.WalkEnds.{representative}
use Rattle.line_sections.proofs.CallerLemmas.{same_spot, spot_found}
use Rattle.line_sections.specs.Spots.{is_same_spot}
use Rattle.near_pieces.proofs.Names.{nat_tests, length-map, All-permutation, IsPermutation-refl, get_or-range_with_len, length-range_with_len, length_permutation, range_with_len, slice_get-get_or, Point, Piece, DrawingValue, Spot, LineValue, AreNearLines, AreNearOrders, block_runs, if_there, lines_in, lines_in_run, lines_numbered, lines_of, needle_after_run, place_of, with_piece}
use Rattle.near_pieces.proofs.PieceSpanLemmas.{ArePiecesInOrder, no_line, spans, spans_are_pieces, spans_have_lines}
use Rattle.near_pieces.specs.NearPieceLaws.{KeepsPieces, NearPiecesStay}

-- What holds of each two items of a list, in either order, holds of them in another order.
module _ {A : Type 0} (R : A → A → Type 0) (turned : (x y : A) → R x y → R y x) where
  abbrev ForAny : List A → Type 0
  ForAny xs = (i j : ℕ) (e : A) → i ≢ j → i < length xs → j < length xs → R (get_or xs i e) (get_or xs j e)

  -- The index that an index has before two items change places.
  abbrev before : (a b i : ℕ) → ℕ
  before a b i = if i == a then b else if i == b then a else i

  moved : (xs : List A) (a b i : ℕ) (e : A) → a < length xs → b < length xs
      → get_or (swap xs a b) i e ≡ get_or xs (before a b i) e
  moved xs a b i e one two = by_tests (i == a) (i == b) refl refl where
    places : (get_or (swap xs a b) a e ≡ get_or xs b e) × (get_or (swap xs a b) b e ≡ get_or xs a e)
        × ((m : ℕ) → (m ≡ a → ⊥) → (m ≡ b → ⊥) → get_or (swap xs a b) m e ≡ get_or xs m e)
    places = swapped_from_swap xs (swap xs a b) a b e one two refl

    by_tests : (s t : Bool) → (i == a) ≡ s → (i == b) ≡ t
        → get_or (swap xs a b) i e ≡ get_or xs (if s then b else if t then a else i) e
    by_tests true t first second = ap (λ k. get_or (swap xs a b) k e) (same_number i a first) ∙ places.0
    by_tests false true first second = ap (λ k. get_or (swap xs a b) k e) (same_number i b second) ∙ places.1
    by_tests false false first second = places.2 i (λ is. false_true (sym first ∙ number_found i a is))
        (λ is. false_true (sym second ∙ number_found i b is))

  one_swap : (xs : List A) (a b : ℕ) → a < length xs → b < length xs → ForAny xs → ForAny (swap xs a b)
  one_swap xs a b one two each i j e differ first second =
      let size = length-swap xs a b in
      subst (λ x. R x (get_or (swap xs a b) j e)) (sym (moved xs a b i e one two))
      (subst (R (get_or xs (before a b i) e)) (sym (moved xs a b j e one two))
      (each (before a b i) (before a b j) e (apart i j differ)
      (inside i (omega (arith, first, size))) (inside j (omega (arith, second, size)))))
    where
      apart : (i j : ℕ) → i ≢ j → before a b i ≢ before a b j
      apart i j differ is = grind (arith, nat_tests)

      inside : (i : ℕ) → i < length xs → before a b i < length xs
      inside i below = grind (arith, nat_tests)

  pub pairs_permuted : (xs ys : List A) → IsPermutation xs ys → AllPairs R xs → AllPairs R ys
  pairs_permuted xs ys moves pairs =
      let all : ForAny ys = IsPermutation-keeps xs ForAny start one_swap ys moves in
      λ i j e less below. all i j e (λ is. omega (arith, is, less)) (omega (arith, less, below)) below
    where
      start : ForAny xs
      start i j e differ one two = elim (cases_lt i j) [
        | inl less ↦ pairs i j e less two
        | inr more ↦ turned (get_or xs j e) (get_or xs i e) (pairs j i e (omega (arith, more, differ)) one)
      ]

-- Connected lines are connected in either order.
module _ (d : DrawingValue) (limits : KeepsDrawingLimits d) (theorem : SpotsAreConnected) where
  -- The spot where a line begins.
  abbrev start_spot : ℕ → Spot
  start_spot line = record { block = block_of d line; at = (get_or (points_of d line) 0 origin) }

  begins : (line : ℕ) → line < length d.lines → IsLineEnd d line (start_spot line)
  begins line below =
      let is : points_of d line ≡ (get_or d.lines line no_line).points =
      ap optional_line_points (slice_get-get_or d.lines line no_line below) in
      record {
        there = below;
        block = refl;
        at_end = inl (first (points_of d line) (subst (λ ps. 2 ≤ length ps) (sym is) (limits.lines line no_line below).long));
      }
    where
      first : (ps : List Point) → 2 ≤ length ps → first_point ps ≡ Some (get_or ps 0 origin)
      first [] long = absurd (omega (arith, long))
      first (p ∷ ps) long = refl

  connected_turned : (i j : ℕ) → i < length d.lines → j < length d.lines → AreConnected d i j → AreConnected d j i
  connected_turned i j one two is =
      let a : Spot = start_spot i in
      let b : Spot = start_spot j in
      let same = same_spot (representative d.lines a) (representative d.lines b)
      ((theorem d a b i j (begins i one) (begins j two)).found is) in
      (theorem d b a j i (begins j two) (begins i one)).led
      (subst (λ s. is_same_spot (representative d.lines b) s ≡ true) (sym same) (spot_found (representative d.lines b)))

  -- Two pieces with lines of the drawing are not connected.
  abbrev AreApart : List ℕ → List ℕ → Type 0
  AreApart a b = first_line a < length d.lines → first_line b < length d.lines → AreConnected d (first_line a) (first_line b) → ⊥

  each_there : (some : List (List ℕ)) → All (λ line. line < length d.lines) (concat some)
      → All (λ piece. All (λ line. line < length d.lines) piece) some
  each_there [] all = All-nil _
  each_there (piece ∷ rest) all = All-cons (λ p. All (λ line. line < length d.lines) p) piece rest
      (all_left (λ line. line < length d.lines) piece (concat rest) all)
      (each_there rest (all_right (λ line. line < length d.lines) piece (concat rest) all))

  found_in : (some : List (List ℕ)) (line : ℕ) → Contains (concat some) line → (piece : List ℕ) × Contains some piece × Contains piece line
  found_in [] line (k, below, is) = absurd (omega (arith, below))
  found_in (piece ∷ rest) line has = elim (Contains-append_cases piece (concat rest) line has) [
    | inl here ↦ (piece, (0, omega arith, refl), here)
    | inr later ↦
        let found = found_in rest line later in
        (found.0, (suc found.1.0, omega (arith, found.1.1), found.1.2), found.2)
  ]

  first_there : (piece : List ℕ) → piece ≢ [] → All (λ line. line < length d.lines) piece → first_line piece < length d.lines
  first_there [] some there = absurd (some refl)
  first_there (line ∷ piece) some there = All-head (λ line. line < length d.lines) line piece there

  -- Pieces in another order are pieces in some order.
  pub kept_in_order : (pieces order : List (List ℕ)) → ArePieces d pieces → IsPermutation pieces order → ArePiecesInOrder d order
  kept_in_order pieces order are moves = record {
    filled = filled;
    there = all_concat (λ line. line < length d.lines) order there;
    covered = λ line below. (
        let found = found_in pieces line (are.covered line below) in
        concat_has order found.0 line (Contains-permutation pieces order found.0 moves found.1) found.2);
    joined = All-permutation (λ p. All (AreConnected d (first_line p)) p) pieces order moves are.joined;
    apart = λ i j e less below. pairs_permuted AreApart (λ a b apart one two is.
        apart two one (connected_turned (first_line b) (first_line a) one two is)) pieces order moves
        (λ i j e less below one two is. are.apart i j e less below is) i j e less below
        (first_there (get_or order i e) (filled i e (omega (arith, less, below))) (there i e (omega (arith, less, below))))
        (first_there (get_or order j e) (filled j e below) (there j e below));
    rising = All-permutation IsStrictlyIncreasing pieces order moves are.rising;
  }
    where
      filled : All (λ p. p ≢ []) order
      filled = All-permutation (λ p. p ≢ []) pieces order moves are.filled

      there : All (λ p. All (λ line. line < length d.lines) p) order
      there = All-permutation (λ p. All (λ line. line < length d.lines) p) pieces order moves (each_there pieces are.there)

-- Lines of one list of indexes and then of another.
numbered_append : (lines : List LineValue) (xs ys : List ℕ)
    → lines_numbered lines (xs ++ ys) ≡ lines_numbered lines xs ++ lines_numbered lines ys
numbered_append lines [] ys = refl
numbered_append lines (x ∷ xs) ys = ap (λ more. if_there (slice_get lines x) ++ more) (numbered_append lines xs ys)
    ∙ sym (append_assoc (if_there (slice_get lines x)) (lines_numbered lines xs) (lines_numbered lines ys))

-- The pieces of all runs.
abbrev pieces_in : List (List Piece) → List Piece
pieces_in [] = []
pieces_in (run ∷ runs) = run ++ pieces_in runs

one_more_piece : (p : Piece) (runs : List (List Piece)) → pieces_in (with_piece p runs) ≡ p ∷ pieces_in runs
one_more_piece p [] = refl
one_more_piece p ([] ∷ runs) = refl
one_more_piece p ((q ∷ run) ∷ runs) = by_test (q.block == p.block) where
  by_test : (t : Bool) → pieces_in (if t then (p ∷ q ∷ run) ∷ runs else (p ∷ []) ∷ (q ∷ run) ∷ runs) ≡ p ∷ (q ∷ run) ++ pieces_in runs
  by_test true = refl
  by_test false = refl

runs_have_pieces : (pieces : List Piece) → pieces_in (block_runs pieces) ≡ pieces
runs_have_pieces [] = refl
runs_have_pieces (p ∷ rest) = one_more_piece p (block_runs rest) ∙ ap (λ ps. p ∷ ps) (runs_have_pieces rest)

module _ (lines : List LineValue) where
  -- Lines are those of some pieces in another order.
  record AreLinesOf (pieces : List Piece) (new : List LineValue) : Type 0 where
    order : List Piece
    each : IsPermutation pieces order
    is : new ≡ lines_numbered lines (concat (lines_of_pieces order))

  run_in_order : (run : List Piece) (order : List ℕ) → IsPermutation (range_with_len 0 (length run)) order
      → AreLinesOf run (lines_in_run lines run order)
  run_in_order [] order each = record {
    order = [];
    each = IsPermutation-refl [];
    is = ap (lines_in_run lines []) (none order (omega (arith, length_permutation [] order each)));
  }
    where
      none : (xs : List ℕ) → length xs ≡ 0 → xs ≡ []
      none [] is = refl
      none (x ∷ xs) is = absurd (omega (arith, is))
  run_in_order (p ∷ rest) order each = record {
    order = map at order;
    each = subst (λ ps. IsPermutation ps (map at order)) (sym (fill_by_all at (p ∷ rest) (length (p ∷ rest)) p refl (λ k below. refl)))
        (IsPermutation-map at (range_with_len 0 (length (p ∷ rest))) order each);
    is = lines_are order (All-permutation (λ i. i < length (p ∷ rest)) (range_with_len 0 (length (p ∷ rest))) order each below);
  }
    where
      at : ℕ → Piece
      at i = get_or (p ∷ rest) i p

      below : All (λ i. i < length (p ∷ rest)) (range_with_len 0 (length (p ∷ rest)))
      below k e inside =
          let size = length-range_with_len 0 (length (p ∷ rest)) in
          omega (arith, inside, size, get_or-range_with_len 0 (length (p ∷ rest)) k e (omega (arith, inside, size)))

      lines_are : (some : List ℕ) → All (λ i. i < length (p ∷ rest)) some
          → lines_in_run lines (p ∷ rest) some ≡ lines_numbered lines (concat (lines_of_pieces (map at some)))
      lines_are [] inside = refl
      lines_are (i ∷ some) inside =
          ap (λ o. lines_of lines o ++ lines_in_run lines (p ∷ rest) some)
          (slice_get-get_or (p ∷ rest) i p (All-head (λ i. i < length (p ∷ rest)) i some inside))
          ∙ ap (λ more. lines_numbered lines (at i).lines ++ more)
          (lines_are some (All-tail (λ i. i < length (p ∷ rest)) i some inside))
          ∙ sym (numbered_append lines (at i).lines (concat (lines_of_pieces (map at some))))

  all_in_order : (from : Option Point) (runs : List (List Piece)) (orders : List (List ℕ)) → AreNearOrders from runs orders
      → AreLinesOf (pieces_in runs) (lines_in lines runs orders)
  all_in_order from [] [] near = record { order = []; each = IsPermutation-refl []; is = refl }
  all_in_order from [] (order ∷ orders) near = absurd near
  all_in_order from (run ∷ runs) [] near = absurd near
  all_in_order from (run ∷ runs) (order ∷ orders) (near, later) =
      let first = run_in_order run order (subst (λ n. IsPermutation (range_with_len 0 n) order) (length-map run place_of) near.each) in
      let others = all_in_order (needle_after_run from run order) runs orders later in
      record {
        order = first.order ++ others.order;
        each = IsPermutation-append run first.order (pieces_in runs) others.order first.each others.each;
        is = ap (λ ls. ls ++ lines_in lines runs orders) first.is
            ∙ ap (λ ls. lines_numbered lines (concat (lines_of_pieces first.order)) ++ ls) others.is
            ∙ sym (numbered_append lines (concat (lines_of_pieces first.order)) (concat (lines_of_pieces others.order)))
            ∙ ap (lines_numbered lines) (sym (lists_append first.order others.order));
      }
    where
      lists_append : (xs ys : List Piece) → concat (lines_of_pieces (xs ++ ys)) ≡ concat (lines_of_pieces xs) ++ concat (lines_of_pieces ys)
      lists_append [] ys = refl
      lists_append (x ∷ xs) ys = ap (λ more. x.lines ++ more) (lists_append xs ys)
          ∙ sym (append_assoc x.lines (concat (lines_of_pieces xs)) (concat (lines_of_pieces ys)))

-- Near lines have the pieces of the drawing.
pub near_pieces_stay : SpotsAreConnected → NearPiecesStay
near_pieces_stay theorem d pieces new starts limits are near =
    let found = all_in_order d.lines None (block_runs pieces) near.orders near.near in
    let order : List (List ℕ) = lines_of_pieces found.order in
    let each : IsPermutation (lines_of_pieces pieces) order =
    IsPermutation-map (λ (p : Piece). p.lines) pieces found.order
    (subst (λ ps. IsPermutation ps found.order) (runs_have_pieces pieces) found.each) in
    let in_order = kept_in_order d limits theorem (lines_of_pieces pieces) order are.are each in
    subst (KeepsPieces d (lines_of_pieces pieces)) (sym (near.lines_are ∙ found.is)) (record {
      order = order;
      each = each;
      new_pieces = spans 0 order;
      pieces_are = spans_are_pieces d order in_order;
      same = spans_have_lines d order in_order;
    })

-- Near lines are those of the drawing with some indexes.
pub near_lines_are_numbered : (lines : List LineValue) (pieces : List Piece) (new : List LineValue) (starts : List Spot)
    → AreNearLines lines None pieces new starts → (some : List ℕ) × (new ≡ lines_numbered lines some)
near_lines_are_numbered lines pieces new starts near =
    let found = all_in_order lines None (block_runs pieces) near.orders near.near in
    (concat (lines_of_pieces found.order), near.lines_are ∙ found.is)
