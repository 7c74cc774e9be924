-- The rows of a table.
use Rattle.std.proofs.Common.{◌≡◌, Vec, Global, ℕ, zero, suc, ◌<◌, ◌≤◌, ◌==◌, true, List, [], ◌∷◌, ◌++◌, Some, length, get_or, All, refl, sym, ap, subst, append_assoc, arith}
use Rattle.std.specs.Prelude.{◌&&◌, Option, slice_get}
use Rattle.odd_paths.proofs.Names.{and_parts, nat_tests, All-cons, All-nil, slice_get_within, nat_lt, slice_index, Edge, IsValidPiece, ends_below, PieceValue, piece_cost, IsLeastEdgeWalk, AreRows, AreTerminals, IsLeastCost, IsPath, RowsValue, cost_at, terminal_of, AddsRows, lists_of, EndsAreBelow, AreLeastRows, IsLeastRow, some_same, append-nil, IsRowFrom, cost_in}
use Rattle.odd_paths.proofs.PassLemmas.{over_passes, over_places, to_passes}
use Rattle.odd_paths.proofs.PlaceLemmas.{none_is, still_within}

-- the ends of the edges of a piece
pub within : (n : ℕ) (es : List Edge) → ends_below n es ≡ true → EndsAreBelow n es
within n [] below = tt
within n (e ∷ es) below =
    let both = and_parts (nat_lt e.a n && nat_lt e.b n) (ends_below n es) below in
    let ends = and_parts (nat_lt e.a n) (nat_lt e.b n) both.0 in
    let a_there : e.a < n = grind (arith, nat_tests) in
    let b_there : e.b < n = grind (arith, nat_tests) in
    (a_there, b_there, within n es both.1)

-- the rows of some terminals and of those that follow
rows_append : (es : List Edge) (n : ℕ) (ts us : List ℕ) (rows more : List (List ℕ)) → AreLeastRows es n ts rows
    → AreLeastRows es n us more → AreLeastRows es n (ts ++ us) (rows ++ more)
rows_append es n [] us [] more all others = others
rows_append es n [] us (r ∷ rows) more all others = absurd all
rows_append es n (t ∷ ts) us [] more all others = absurd all
rows_append es n (t ∷ ts) us (r ∷ rows) more all others = (all.0, rows_append es n ts us rows more all.1 others)

pub goes_on : (es : List Edge) (n : ℕ) (all block after rest : List ℕ) (old new : List (Vec ℕ Global)) → AddsRows es n block old new
    → rest ≡ block ++ after → ((more : List (List ℕ)) → AreLeastRows es n rest more → AreLeastRows es n all (lists_of old ++ more))
    → (more : List (List ℕ)) → AreLeastRows es n after more → AreLeastRows es n all (lists_of new ++ more)
goes_on es n all block after rest old new added whole before more later =
    let others : AreLeastRows es n rest (added.more ++ more) =
    rw whole (rows_append es n block after added.more more added.rows later) in
    let Have : List (List ℕ) → Type 0 = λ rows. AreLeastRows es n all rows in
    rw added.is (subst Have (sym (append_assoc (lists_of old) added.more more)) (before (added.more ++ more) others))

-- and where none follow, these are all
pub none_left : (es : List Edge) (n : ℕ) (all rest : List ℕ) (rows : List (List ℕ)) → (length rest == 0) ≡ true
    → ((more : List (List ℕ)) → AreLeastRows es n rest more → AreLeastRows es n all (rows ++ more)) → AreLeastRows es n all rows
none_left es n all [] rows none before = grind (arith, nat_tests, append-nil rows)
none_left es n all (t ∷ rest) rows none before = absurd (grind (arith, nat_tests, none))

-- the rows of a table are those of a piece
sized : (es : List Edge) (n : ℕ) (ts : List ℕ) (rows : List (List ℕ)) → AreLeastRows es n ts rows → length rows ≡ length ts
sized es n [] [] all = refl
sized es n [] (r ∷ rows) all = absurd all
sized es n (s ∷ ts) [] all = absurd all
sized es n (s ∷ ts) (r ∷ rows) all = omega (arith, sized es n ts rows all.1)

wide : (es : List Edge) (n : ℕ) (ts : List ℕ) (rows : List (List ℕ)) → AreLeastRows es n ts rows
    → All (λ (row : List ℕ). length row ≡ n) rows
wide es n [] [] all = All-nil (λ (row : List ℕ). length row ≡ n)
wide es n [] (r ∷ rows) all = absurd all
wide es n (s ∷ ts) [] all = absurd all
wide es n (s ∷ ts) (r ∷ rows) all = All-cons (λ (row : List ℕ). length row ≡ n) r rows all.0.size (wide es n ts rows all.1)

-- the row with that index
row_at : (es : List Edge) (n t : ℕ) (ts : List ℕ) (rows : List (List ℕ)) → AreLeastRows es n ts rows → t < length ts
    → (row : List ℕ) × (slice_get rows t ≡ Some row) × IsLeastRow es n (slice_index ts t) row
row_at es n t [] rows all there = absurd (omega arith)
row_at es n t (s ∷ ts) [] all there = absurd all
row_at es n zero (s ∷ ts) (r ∷ rows) all there = (r, refl, all.0)
row_at es n (suc t) (s ∷ ts) (r ∷ rows) all there = row_at es n t ts rows all.1 (omega arith)

pub are_rows : (p : PieceValue) (rows : RowsValue) → IsValidPiece p → AreTerminals p rows.terminals
    → AreLeastRows p.edges (length p.junctions) rows.terminals rows.table → AreRows p rows
are_rows p rows keeps terminals all = record {
  terminals = terminals;
  sized = sized p.edges (length p.junctions) rows.terminals rows.table all;
  wide = wide p.edges (length p.junctions) rows.terminals rows.table all;
  least = λ t j there in_j. (
      let at = row_at p.edges (length p.junctions) t rows.terminals rows.table all there in
      rw at.1 (over_passes p keeps (terminal_of rows t) j (slice_index at.0 j) (at.2.least j in_j)));
  most = λ t j there in_j. (
      let at = row_at p.edges (length p.junctions) t rows.terminals rows.table all there in
      rw at.1 (at.2.most j in_j));
}

-- and each of them is a row
row_of : (n t : ℕ) (rows : List (List ℕ)) (row : List ℕ) → All (λ (r : List ℕ). length r ≡ n) rows → slice_get rows t ≡ Some row
    → length row ≡ n
row_of n t rows row all got = let within = slice_get_within rows t row got in
    subst (λ (r : List ℕ). length r ≡ n) (get_or_is rows t row got) (all t row within)
  where
    get_or_is : (rows : List (List ℕ)) (t : ℕ) (row : List ℕ) → slice_get rows t ≡ Some row → get_or rows t row ≡ row
    get_or_is [] t row got = absurd (none_is row got)
    get_or_is (r ∷ rows) zero row got = some_same r row got
    get_or_is (r ∷ rows) (suc t) row got = get_or_is rows t row got

pub is_a_row : (p : PieceValue) (rows : RowsValue) (t : ℕ) (row : List ℕ) → IsValidPiece p → AreRows p rows
    → t < length rows.terminals → slice_get rows.table t ≡ Some row → IsLeastRow p.edges (length p.junctions) (terminal_of rows t) row
is_a_row p rows t row keeps all there got = record {
  size = row_of (length p.junctions) t rows.table row all.wide got;
  least = λ j in_j. over_places p keeps (terminal_of rows t) j (slice_index row j)
      (subst (λ (d : ℕ). IsLeastCost p (terminal_of rows t) j d) (ap (λ (r : Option (List ℕ)). cost_in r j) got)
      (all.least t j there in_j));
  most = λ j in_j. subst (λ (d : ℕ). d ≤ piece_cost p) (ap (λ (r : Option (List ℕ)). cost_in r j) got) (all.most t j there in_j);
}

-- likewise for the argument of a call
pub is_this_row : (p : PieceValue) (rows : RowsValue) (t : ℕ) (row : List ℕ) (es : List Edge) (from : ℕ) → IsValidPiece p → AreRows p rows
    → t < length rows.terminals → slice_get rows.table t ≡ Some row → es ≡ p.edges → from ≡ terminal_of rows t → IsRowFrom es from row
is_this_row p rows t row es from keeps all there got edges terminal = grind (arith, nat_tests, is_a_row, still_within, within)

-- the indexes of edges that lead there, at the cost in the row, are a path
pub is_path : (p : PieceValue) (rows : RowsValue) (t j : ℕ) (row places : List ℕ) → IsValidPiece p → slice_get rows.table t ≡ Some row
    → IsLeastEdgeWalk p.edges row (terminal_of rows t) j places → IsPath p (terminal_of rows t) j (cost_at rows t j) places
is_path p rows t j row places keeps got least = grind (arith, nat_tests, to_passes p.lines p.edges (terminal_of rows t) j places)
