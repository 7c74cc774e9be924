-- Degrees of junctions, counted line end by line end.
use Rattle.std.proofs.Common.{◌≡◌, ◌<◌, ◌≤◌, ℕ, zero, suc, ◌+◌, ◌*◌, ◌==◌, true, false, List, [], ◌∷◌, ◌++◌, length, get_or, set, take, replicate, nat_lt, ◌&&◌, All, arith, refl, sym, ◌∙◌, ap}
use Rattle.line_graph.proofs.Names.{and_parts, eqb-false, nat_tests, get_or-set_other, get_or-set_same, take_more, All-cons, All-nil, Edge, ends_below, one_if, degree, degrees_from, same_number, length-take}

-- an edge for a place where there is none
abbrev pub no_edge : Edge
no_edge = record { a = 0; b = 0; cost = 0 }

-- the values of a function from one number on
abbrev table : (ℕ → ℕ) → (at count : ℕ) → List ℕ
table f at zero = []
table f at (suc n) = f at ∷ table f (at + 1) n

-- degrees are such values
degrees_table : (es : List Edge) (at n : ℕ) → degrees_from es at n ≡ table (degree es) at n
degrees_table es at zero = refl
degrees_table es at (suc n) = ap (λ (ds : List ℕ). degree es at ∷ ds) (degrees_table es (at + 1) n)

-- the same function has the same values
table_same : (f g : ℕ → ℕ) → ((j : ℕ) → f j ≡ g j) → (at n : ℕ) → table f at n ≡ table g at n
table_same f g same_number at zero = refl
table_same f g same_number at (suc n) = ap (λ (k : ℕ). k ∷ table f (at + 1) n) (same_number at)
    ∙ ap (λ (ks : List ℕ). g at ∷ ks) (table_same f g same_number (at + 1) n)

-- one more at one place
table_more : (f : ℕ → ℕ) (at n k : ℕ) → k < n
    → set (table f at n) k (get_or (table f at n) k 0 + 1) ≡ table (λ j. f j + one_if (at + k == j)) at n
table_more f at zero k below = absurd (omega (arith, below))
table_more f at (suc n) zero below =
    ap (λ (x : ℕ). x ∷ table f (at + 1) n) (here (f at) at)
    ∙ ap (λ (ks : List ℕ). (f at + one_if (at + 0 == at)) ∷ ks) (later (at + 1) n (omega arith))
  where
    here : (x at : ℕ) → x + 1 ≡ x + one_if (at + 0 == at)
    here x at = let t : (at + 0 == at) ≡ true = grind (arith, nat_tests) in rw t refl

    apart : (x k : ℕ) → at < k → x ≡ x + one_if (at + 0 == k)
    apart x k less = let t : (at + 0 == k) ≡ false = grind (arith, nat_tests) in rw t (omega arith)

    later : (k n : ℕ) → at < k → table f k n ≡ table (λ j. f j + one_if (at + 0 == j)) k n
    later k zero less = refl
    later k (suc n) less = grind (arith, nat_tests, apart (f k) k less, less, later (k + 1) n (omega (arith, less)))
table_more f at (suc n) (suc k) below =
    ap (λ (x : ℕ). x ∷ set (table f (at + 1) n) k (get_or (table f (at + 1) n) k 0 + 1)) (apart (f at))
    ∙ ap (λ (ks : List ℕ). (f at + one_if (at + suc k == at)) ∷ ks) (table_more f (at + 1) n k (omega (arith, below))
    ∙ table_same (λ j. f j + one_if ((at + 1) + k == j)) (λ j. f j + one_if (at + suc k == j))
    (λ j. ap (λ (m : ℕ). f j + one_if (m == j)) (omega arith)) (at + 1) n)
  where
    apart : (x : ℕ) → x ≡ x + one_if (at + suc k == at)
    apart x = let t : (at + suc k == at) ≡ false = grind (arith, nat_tests) in rw t (omega arith)

-- from the first on
table_counts : (f : ℕ → ℕ) (n k : ℕ) → k < n → set (table f 0 n) k (get_or (table f 0 n) k 0 + 1) ≡ table (λ j. f j + one_if (k == j)) 0 n
table_counts f n k below = table_more f 0 n k below
    ∙ table_same (λ j. f j + one_if (0 + k == j)) (λ j. f j + one_if (k == j)) (λ j. ap (λ (m : ℕ). f j + one_if (m == j)) (omega arith)) 0
    n

-- one more edge adds its ends
degree_more : (es : List Edge) (e : Edge) (j : ℕ) → degree (es ++ e ∷ []) j ≡ (degree es j + one_if (e.a == j)) + one_if (e.b == j)
degree_more [] e j = omega arith
degree_more (x ∷ es) e j = omega (arith, degree_more es e j)

-- with both of its ends counted, one more edge is
both_ends : (es : List Edge) (e : Edge) (n : ℕ) (ds once twice : List ℕ) → e.a < n → e.b < n → ds ≡ degrees_from es 0 n
    → once ≡ set ds e.a (get_or ds e.a 0 + 1) → twice ≡ set once e.b (get_or once e.b 0 + 1) → twice ≡ degrees_from (es ++ e ∷ []) 0 n
both_ends es e n ds once twice a_below b_below is one two =
    let f : ℕ → ℕ = λ j. degree es j + one_if (e.a == j) in
    let first : once ≡ table f 0 n = one ∙ ap (λ (xs : List ℕ). set xs e.a (get_or xs e.a 0 + 1)) (is ∙ degrees_table es 0 n)
    ∙ table_counts (degree es) n e.a a_below in
    two ∙ ap (λ (xs : List ℕ). set xs e.b (get_or xs e.b 0 + 1)) first ∙ table_counts f n e.b b_below
    ∙ table_same (λ j. f j + one_if (e.b == j)) (degree (es ++ e ∷ [])) (λ j. sym (degree_more es e j)) 0 n
    ∙ sym (degrees_table (es ++ e ∷ []) 0 n)

-- and so along the edges
pub next_counted : (edges : List Edge) (at n : ℕ) (ds once twice : List ℕ) → at < length edges → (get_or edges at no_edge).a < n
    → (get_or edges at no_edge).b < n → ds ≡ degrees_from (take at edges) 0 n
    → once ≡ set ds (get_or edges at no_edge).a (get_or ds (get_or edges at no_edge).a 0 + 1)
    → twice ≡ set once (get_or edges at no_edge).b (get_or once (get_or edges at no_edge).b 0 + 1)
    → twice ≡ degrees_from (take (at + 1) edges) 0 n
next_counted edges at n ds once twice below a_below b_below is one two =
    both_ends (take at edges) (get_or edges at no_edge) n ds once twice a_below b_below is one two
    ∙ ap (λ (es : List Edge). degrees_from es 0 n) (sym (take_more edges at no_edge below))

-- a junction has no more line ends than there are
degree_few : (es : List Edge) (j : ℕ) → degree es j ≤ 2 * length es
degree_few [] j = omega arith
degree_few (e ∷ es) j = grind (arith, nat_tests, degree_few es j)

-- values that are few are few in the list
table_few : (f : ℕ → ℕ) (most : ℕ) → ((j : ℕ) → f j ≤ most) → (at n k : ℕ) → get_or (table f at n) k 0 ≤ most
table_few f most few at zero k = omega arith
table_few f most few at (suc n) zero = few at
table_few f most few at (suc n) (suc k) = table_few f most few (at + 1) n k

-- so no count is greater
pub count_few : (edges : List Edge) (at n k : ℕ) (ds : List ℕ) → ds ≡ degrees_from (take at edges) 0 n → get_or ds k 0 ≤ 2 * length edges
count_few edges at n k ds is =
    let all = table_few (degree (take at edges)) (2 * length (take at edges)) (degree_few (take at edges)) 0 n k in
    omega (arith, ap (λ (xs : List ℕ). get_or xs k 0) (is ∙ degrees_table (take at edges) 0 n), all, length-take at edges)

-- one more line end makes none of them greater by more
pub set_few : (ds : List ℕ) (k j count : ℕ) → k < length ds → count ≡ get_or ds k 0 → get_or (set ds k (count + 1)) j 0 ≤ get_or ds j 0 + 1
set_few ds k j count below is =
    grind (arith, nat_tests, get_or-set_same ds k (count + 1) 0 below, same_number j k, get_or-set_other ds k j (count + 1) 0, eqb-false j)

-- no line end is counted at first
pub none_counted : (at n : ℕ) → replicate n 0 ≡ degrees_from [] at n
none_counted at zero = refl
none_counted at (suc n) = ap (λ (ds : List ℕ). 0 ∷ ds) (none_counted (at + 1) n)

-- both ends of each edge are below the number
pub ends_within : (n : ℕ) (edges : List Edge) → ends_below n edges ≡ true → All (λ (e : Edge). (e.a < n) × (e.b < n)) edges
ends_within n [] ends = All-nil (λ (e : Edge). (e.a < n) × (e.b < n))
ends_within n (e ∷ edges) ends =
    let both = and_parts (nat_lt e.a n && nat_lt e.b n) (ends_below n edges) ends in
    let here = and_parts (nat_lt e.a n) (nat_lt e.b n) both.0 in
    All-cons (λ (e : Edge). (e.a < n) × (e.b < n)) e edges (less e.a here.0, less e.b here.1) (ends_within n edges both.1)
  where
    less : (m : ℕ) → nat_lt m n ≡ true → m < n
    less m is = grind (arith, nat_tests)
