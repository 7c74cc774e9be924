-- A piece with copies for the pairs of its odd junctions can be passed, and its tours cost as much more.
use Rattle.std.proofs.Common.{◌≡◌, ◌≢◌, ◌≤◌, ◌<◌, ℕ, zero, suc, ◌+◌, ◌%◌, ◌==◌, Bool, true, false, cond, ◌&&◌, nat_lt, List, [], ◌∷◌, ◌++◌, length, filter, get_or, replicate, Option, Some, None, All, arith, refl, sym, ◌∙◌, ap, subst}
use Rattle.route_core.proofs.Names.{nat_tests, and_parts, All-head, All-tail, length-replicate, sum_by-cons, Pair, IsPerfectMatching, pair_ends_at, CanPass, IsTour, Edge, MAX_COST, Pass, IsValidPiece, PieceValue, one_if, given_start, edge_cost, AreTerminals, RowsValue, terminal_of, AddsPairs, IsPairOf, total_copies, copies_sum, edge_end_count, pair_costs, AreOddRows, IsWalkBy, eq_self, range_with_len, copies_cost, pass_count, pass_ends, is_below, edges_with_closing, closing_edge, degree, is_odd, is_odd_junction, given_end, pair_ends, or_below, same_number, unequal}
use Rattle.line_graph.specs.ValidPieces.{ends_below}
use Rattle.route_core.proofs.PairLemmas.{none_cost}
use Rattle.route_core.proofs.PathLemmas.{up_within}

-- a number of a range that passes a test is among those that do
found : (o : ℕ → Bool) (at n v : ℕ) → at ≤ v → v < at + n → o v ≡ true
    → (a : ℕ) × (a < length (filter o (range_with_len at n))) × (get_or (filter o (range_with_len at n)) a 0 ≡ v)
found o at zero v from to is = absurd (omega arith)
found o at (suc n) v from to is = by_test (at == v) refl (λ (h : at + 1 ≤ v). found o (at + 1) n v h (omega arith) is)
  where
    next : (m n : ℕ) → (m == n) ≡ false → m ≤ n → m + 1 ≤ n
    next m n is h = grind (arith, nat_tests)

    first : (rest : List ℕ) → (a : ℕ) × (a < length (at ∷ rest)) × (get_or (at ∷ rest) a 0 ≡ at)
    first rest = (0, omega arith, refl)

    by_kept : (t : Bool) (rest : List ℕ) → (a : ℕ) × (a < length rest) × (get_or rest a 0 ≡ v)
        → (a : ℕ) × (a < length (cond t (at ∷ rest) rest)) × (get_or (cond t (at ∷ rest) rest) a 0 ≡ v)
    by_kept true rest f = (suc f.0, omega (arith, f.1), f.2)
    by_kept false rest f = f

    by_test : (t : Bool) → (at == v) ≡ t → (at + 1 ≤ v → (a : ℕ) × (a < length (filter o (range_with_len (at + 1) n)))
        × (get_or (filter o (range_with_len (at + 1) n)) a 0 ≡ v))
        → (a : ℕ) × (a < length (cond (o at) (at ∷ filter o (range_with_len (at + 1) n)) (filter o (range_with_len (at + 1) n))))
        × (get_or (cond (o at) (at ∷ filter o (range_with_len (at + 1) n)) (filter o (range_with_len (at + 1) n))) a 0 ≡ v)
    by_test true here rest =
        let e = same_number at v here in
        let odd : o at ≡ true = ap o e ∙ is in
        rw odd (subst (λ (k : ℕ). (a : ℕ) × (a < length (at ∷ filter o (range_with_len (at + 1) n)))
        × (get_or (at ∷ filter o (range_with_len (at + 1) n)) a 0 ≡ k)) e
        (first (filter o (range_with_len (at + 1) n))))
    by_test false other rest = by_kept (o at) (filter o (range_with_len (at + 1) n)) (rest (next at v other from))

-- and those pass it
passes_test : (o : ℕ → Bool) (at n a : ℕ) → a < length (filter o (range_with_len at n)) → o (get_or (filter o (range_with_len at n)) a 0)
    ≡ true
passes_test o at zero a below = absurd (omega arith)
passes_test o at (suc n) a below = by_test (o at) refl a below (λ b. λ h. passes_test o (at + 1) n b h)
  where
    by_place : (rest : List ℕ) → o at ≡ true → (a : ℕ) → a < length (at ∷ rest) → ((b : ℕ) → b < length rest → o (get_or rest b 0) ≡ true)
        → o (get_or (at ∷ rest) a 0) ≡ true
    by_place rest is zero below more = is
    by_place rest is (suc a) below more = more a (omega arith)

    by_test : (t : Bool) → o at ≡ t → (a : ℕ) → a < length (cond (o at) (at ∷ filter o (range_with_len (at + 1) n))
        (filter o (range_with_len (at + 1) n)))
        → ((b : ℕ) → b < length (filter o (range_with_len (at + 1) n)) → o (get_or (filter o (range_with_len (at + 1) n)) b 0) ≡ true)
        → o (get_or (cond (o at) (at ∷ filter o (range_with_len (at + 1) n)) (filter o (range_with_len (at + 1) n))) a 0) ≡ true
    by_test true is a below more =
        subst (λ (t : Bool). o (get_or (cond t (at ∷ filter o (range_with_len (at + 1) n)) (filter o (range_with_len (at + 1) n))) a 0)
        ≡ true) (sym is)
        (by_place (filter o (range_with_len (at + 1) n)) is a
        (subst (λ (t : Bool). a < length (cond t (at ∷ filter o (range_with_len (at + 1) n)) (filter o (range_with_len (at + 1) n)))) is
        below) more)
    by_test false is a below more =
        subst (λ (t : Bool). o (get_or (cond t (at ∷ filter o (range_with_len (at + 1) n)) (filter o (range_with_len (at + 1) n))) a 0)
        ≡ true) (sym is)
        (more a (subst (λ (t : Bool). a < length (cond t (at ∷ filter o (range_with_len (at + 1) n))
        (filter o (range_with_len (at + 1) n)))) is below))

-- how often pairs end at a terminal
ends_at_terminal : (p : PieceValue) (rows : RowsValue) → AreTerminals p rows.terminals → (x : ℕ) → x < length rows.terminals
    → (pairs : List Pair) → All (IsPairOf rows) pairs → pair_ends rows (terminal_of rows x) pairs ≡ pair_ends_at pairs x
ends_at_terminal p rows ts x x_in [] there = refl
ends_at_terminal p rows ts x x_in (q ∷ pairs) there =
    let here = All-head (IsPairOf rows) q pairs there in
    rw (is_end q.a here.a_in, is_end q.b here.b_in, ends_at_terminal p rows ts x x_in pairs (All-tail (IsPairOf rows) q pairs there))
    (sym (sum_by-cons (λ (q : Pair). cond (x == q.a) 1 0 + cond (x == q.b) 1 0) q pairs))
  where
    less : (a x : ℕ) → (x == a) ≡ false → nat_lt a x ≡ false → x < a
    less a x h g = grind (arith, nat_tests)

    less_back : (a x : ℕ) → nat_lt a x ≡ true → a < x
    less_back a x h = grind (arith, nat_tests)

    differ : (a : ℕ) → a < length rows.terminals → (x == a) ≡ false → (s : Bool) → nat_lt a x ≡ s
        → (terminal_of rows a == terminal_of rows x) ≡ false
    differ a a_in other true is = unequal (terminal_of rows a) (terminal_of rows x) (ts.different a x 0 (less_back a x is) x_in)
    differ a a_in other false is =
        unequal (terminal_of rows a) (terminal_of rows x) (λ h. ts.different x a 0 (less a x other is) a_in (sym h))

    by_test : (a : ℕ) → a < length rows.terminals → (t : Bool) → (x == a) ≡ t → one_if (terminal_of rows a == terminal_of rows x)
        ≡ cond (x == a) 1 0
    by_test a a_in true is = rw (is, ← same_number x a is, eq_self (terminal_of rows x)) refl
    by_test a a_in false is = rw (is, differ a a_in is (nat_lt a x) refl) refl

    is_end : (a : ℕ) → a < length rows.terminals → one_if (terminal_of rows a == terminal_of rows x) ≡ cond (x == a) 1 0
    is_end a a_in = by_test a a_in (x == a) refl

-- pairs end nowhere else
ends_elsewhere : (rows : RowsValue) (v : ℕ) → ((x : ℕ) → x < length rows.terminals → terminal_of rows x ≢ v) → (pairs : List Pair)
    → All (IsPairOf rows) pairs → pair_ends rows v pairs ≡ 0
ends_elsewhere rows v other [] there = refl
ends_elsewhere rows v other (q ∷ pairs) there =
    let here = All-head (IsPairOf rows) q pairs there in
    rw (
      unequal (terminal_of rows q.a) v (other q.a here.a_in),
      unequal (terminal_of rows q.b) v (other q.b here.b_in),
      ends_elsewhere rows v other pairs (All-tail (IsPairOf rows) q pairs there),
    ) refl

degree_append : (xs ys : List Edge) (v : ℕ) → degree (xs ++ ys) v ≡ degree xs v + degree ys v
degree_append [] ys v = omega arith
degree_append (x ∷ xs) ys v = grind (arith, nat_tests, degree_append xs ys v)

degree_beyond : (es : List Edge) (n v : ℕ) → ends_below n es ≡ true → n ≤ v → degree es v ≡ 0
degree_beyond [] n v below beyond = refl
degree_beyond (e ∷ es) n v below beyond =
    let parts = and_parts (nat_lt e.a n && nat_lt e.b n) (ends_below n es) below in
    let ends = and_parts (nat_lt e.a n) (nat_lt e.b n) parts.0 in
    rw (other e.a n ends.0 beyond, other e.b n ends.1 beyond, degree_beyond es n v parts.1 beyond) refl
  where
    other : (a n : ℕ) → nat_lt a n ≡ true → n ≤ v → (a == v) ≡ false
    other a n is beyond = grind (arith, nat_tests)

closing_beyond : (n v : ℕ) (from to : Option ℕ) → is_below n from ≡ true → is_below n to ≡ true → n ≤ v
    → degree (closing_edge from to) v ≡ 0
closing_beyond n v None to f t beyond = refl
closing_beyond n v (Some a) None f t beyond = refl
closing_beyond n v (Some a) (Some b) f t beyond = grind (arith, nat_tests)

-- the ends of passes are those of the lines, and those of the copies
ends_are : (es : List Edge) (copies : List ℕ) (v : ℕ) → length copies ≡ length es → pass_ends es copies v
    ≡ degree es v + copies_sum (edge_end_count v) es copies
ends_are [] copies v sized = refl
ends_are (e ∷ es) [] v sized = absurd (omega arith)
ends_are (e ∷ es) (c ∷ copies) v sized = grind (arith, nat_tests, ends_are es copies v (omega arith))

cost_is : (es : List Edge) (copies : List ℕ) → copies_cost es copies ≡ copies_sum edge_cost es copies
cost_is [] copies = refl
cost_is (e ∷ es) [] = refl
cost_is (e ∷ es) (c ∷ copies) = rw (cost_is es copies) refl

count_is : (copies : List ℕ) → pass_count copies ≡ total_copies copies + length copies
count_is [] = refl
count_is (c ∷ copies) = omega (arith, sum_by-cons (λ (c : ℕ). c + 1) c copies, count_is copies)

-- an odd number of line ends, or an even one
parity : (d : ℕ) → (t : Bool) → is_odd d ≡ t → d % 2 ≡ one_if t
parity d true is = grind (arith, nat_tests)
parity d false is = grind (arith, nat_tests)

-- the pairs end at a junction as its parity requires
pairs_parity : (p : PieceValue) → IsValidPiece p → (rows : RowsValue) → AreOddRows p rows → (pairs : List Pair) → All (IsPairOf rows) pairs
    → IsPerfectMatching (length rows.terminals) pairs → (v : ℕ) → (degree (edges_with_closing p) v + pair_ends rows v pairs) % 2 ≡ 0
pairs_parity p kept rows odd_rows pairs there each v = by_range (nat_lt v (length p.junctions)) refl
  where
    less : (m n : ℕ) → nat_lt m n ≡ true → m < n
    less m n is = grind (arith, nat_tests)

    beyond : (m n : ℕ) → nat_lt m n ≡ false → n ≤ m
    beyond m n is = grind (arith, nat_tests)

    one_each : (n x k : ℕ) → x < n → k ≡ cond (nat_lt x n) 1 0 → k ≡ 1
    one_each n x k below is = rw (tested x n below) at is
      where
        tested : (x n : ℕ) → x < n → nat_lt x n ≡ true
        tested x n h = grind (arith, nat_tests)

    added : (d k : ℕ) → d % 2 ≡ 1 → k ≡ 1 → (d + k) % 2 ≡ 0
    added d k h g = omega arith

    none : (d k : ℕ) → d % 2 ≡ 0 → k ≡ 0 → (d + k) % 2 ≡ 0
    none d k h g = omega arith

    terminal_odd : (x : ℕ) → x < length rows.terminals → is_odd_junction p (terminal_of rows x) ≡ true
    terminal_odd x below =
        subst (λ (ts : List ℕ). is_odd_junction p (get_or ts x 0) ≡ true) (sym odd_rows.terminals)
        (passes_test (is_odd_junction p) 0 (length p.junctions) x (subst (λ (ts : List ℕ). x < length ts) odd_rows.terminals below))

    true_false : (t : Bool) → t ≡ true → t ≡ false → ⊥
    true_false true h g = cc
    true_false false h g = cc

    not_terminal : is_odd_junction p v ≡ false → (x : ℕ) → x < length rows.terminals → terminal_of rows x ≢ v
    not_terminal even x below is = true_false (is_odd_junction p v)
        (subst (λ (k : ℕ). is_odd_junction p k ≡ true) is (terminal_odd x below)) even

    by_odd : v < length p.junctions → (t : Bool) → is_odd_junction p v ≡ t
        → (degree (edges_with_closing p) v + pair_ends rows v pairs) % 2 ≡ 0
    by_odd below true is =
        let f = found (is_odd_junction p) 0 (length p.junctions) v (omega arith) (omega (arith, below)) is in
        let x_in : f.0 < length rows.terminals = subst (λ (ts : List ℕ). f.0 < length ts) (sym odd_rows.terminals) f.1 in
        let at : terminal_of rows f.0 ≡ v = subst (λ (ts : List ℕ). get_or ts f.0 0 ≡ v) (sym odd_rows.terminals) f.2 in
        added (degree (edges_with_closing p) v) (pair_ends rows v pairs) (parity (degree (edges_with_closing p) v) true is)
        (ap (λ (k : ℕ). pair_ends rows k pairs) (sym at) ∙ ends_at_terminal p rows odd_rows.rows_are.terminals f.0 x_in pairs there
        ∙ one_each (length rows.terminals) f.0 (pair_ends_at pairs f.0) x_in (each f.0))
    by_odd below false is =
        none (degree (edges_with_closing p) v) (pair_ends rows v pairs) (parity (degree (edges_with_closing p) v) false is)
        (ends_elsewhere rows v (not_terminal is) pairs there)

    by_range : (s : Bool) → nat_lt v (length p.junctions) ≡ s → (degree (edges_with_closing p) v + pair_ends rows v pairs) % 2 ≡ 0
    by_range true is = by_odd (less v (length p.junctions) is) (is_odd_junction p v) refl
    by_range false is =
        let far = beyond v (length p.junctions) is in
        let zero_degree : degree (edges_with_closing p) v ≡ 0
        = degree_append (closing_edge (given_start p) (given_end p)) p.edges v
        ∙ both (degree (closing_edge (given_start p) (given_end p)) v) (degree p.edges v)
        (closing_beyond (length p.junctions) v (given_start p) (given_end p) (or_below _ p.start p.end kept.start_below kept.end_below)
        (or_below _ p.end p.start kept.end_below kept.start_below) far)
        (degree_beyond p.edges (length p.junctions) v kept.ends far) in
        none (degree (edges_with_closing p) v) (pair_ends rows v pairs) (ap (λ (k : ℕ). k % 2) zero_degree)
        (ends_elsewhere rows v (not_terminal (ap is_odd zero_degree)) pairs there)
      where
        both : (x y : ℕ) → x ≡ 0 → y ≡ 0 → x + y ≡ 0
        both x y h g = omega arith

-- the lines with their copies can be passed
pub can_pass : (p : PieceValue) → IsValidPiece p → (rows : RowsValue) → AreOddRows p rows → (pairs : List Pair) → All (IsPairOf rows) pairs
    → IsPerfectMatching (length rows.terminals) pairs → pair_costs rows pairs ≤ MAX_COST → (copies : List ℕ)
    → AddsPairs p rows pairs (replicate (length p.edges) 0) copies → CanPass p copies
can_pass p kept rows odd_rows pairs there each few copies adds =
    let sized : length copies ≡ length p.edges = adds.sized ∙ length-replicate (length p.edges) 0 in
    let up = up_within p.edges copies kept.costs sized in
    record {
      beside = sized ∙ sym kept.beside;
      even = λ v. even (degree (closing_edge (given_start p) (given_end p)) v) (degree p.edges v) (degree (edges_with_closing p) v)
          (pass_ends p.edges copies v) (copies_sum (edge_end_count v) p.edges copies)
          (copies_sum (edge_end_count v) p.edges (replicate (length p.edges) 0)) (pair_ends rows v pairs)
          (degree_append (closing_edge (given_start p) (given_end p)) p.edges v) (ends_are p.edges copies v sized)
          (none_cost (edge_end_count v) p.edges (length p.edges)) (adds.ends v) (pairs_parity p kept rows odd_rows pairs there each v);
      few = (omega (
        arith,
        count_is copies,
        up,
        sized,
        kept.beside,
        kept.few,
        adds.costs,
        none_cost edge_cost p.edges
            (length p.edges),
        few,
      ));
    }
  where
    even : (c d k e s z q : ℕ) → k ≡ c + d → e ≡ d + s → z ≡ 0 → ((s + z) + q) % 2 ≡ 0 → (k + q) % 2 ≡ 0 → (c + e) % 2 ≡ 0
    even c d k e s z q a b n h g = omega arith

-- and a tour over them is a walk by the pairs
pub walk_is : (p : PieceValue) → IsValidPiece p → (rows : RowsValue) (pairs : List Pair) (copies : List ℕ) (walk : List Pass)
    → AddsPairs p rows pairs (replicate (length p.edges) 0) copies → IsTour p copies walk → IsWalkBy p rows pairs walk
walk_is p kept rows pairs copies walk adds tour = grind (arith, nat_tests, count_is, length-replicate, cost_is, none_cost)
