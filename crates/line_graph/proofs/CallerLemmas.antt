-- Lemmas that this crate and those above cite.
use mathlib.Core.List.{reverse_aux}
use Rattle.std.proofs.Common.{All, AllPairs, List, None, Option, Some, [], ap, arith, false, get_or, length, map, nat_lt, refl, replicate, slice_get, subst, suc, sum_by, sym, true, zero, ℕ, ◌&&◌, ◌*◌, ◌++◌, ◌+◌, ◌-◌, ◌<◌, ◌==◌, ◌∷◌, ◌≡◌, ◌≤◌}
use Rattle.line_graph.proofs.Names.{and_parts, nat_tests, length-append, length-map, All-cons, All-head, All-tail, AllPairs-from_increasing, sum_by-cons, IsStrictlyIncreasing, option_or, Stitch, Stop, Trim, Point, IsNeedlePoint, PieceValue, degree, degrees_from, BeginsWith, all_greater, are_same_junction, edge_of, is_strictly_increasing, walk_end_from, first_line, lines_of_pieces, Run, commands_after, stops_after, IsValidPiece, ends_below, is_below, Edge, Pass, Piece, eq_self, ltb-true, length-replicate, closing_edge, is_odd, after_pass, differs_back}
use Rattle.line_graph.specs.ClosedDegrees.{closing_ends}
use Rattle.line_graph.specs.declared.limits.TheConstants.{MAX_LINES}

-- needle points are in range the other way round
pub range_back : (xs r : List Point) → All IsNeedlePoint xs → All IsNeedlePoint r → All IsNeedlePoint (reverse_aux xs r)
range_back [] r forth back = back
range_back (x ∷ xs) r forth back =
    range_back xs (x ∷ r) (All-tail IsNeedlePoint x xs forth) (All-cons IsNeedlePoint x r (All-head IsNeedlePoint x xs forth) back)

-- from nowhere no walk leads anywhere
pub lost : (lines : List ℕ) (edges : List Edge) (walk : List Pass) (to : ℕ) → walk_end_from lines edges None walk ≡ Some to → ⊥
lost lines edges [] to is = cc
lost lines edges (p ∷ walk) to is = lost lines edges walk to is

-- as many degrees as junctions
pub length-degrees_from : (es : List Edge) (at n : ℕ) → length (degrees_from es at n) ≡ n
length-degrees_from es at zero = refl
length-degrees_from es at (suc n) = ap (λ (k : ℕ). suc k) (length-degrees_from es (at + 1) n)

-- in rising lines each line appears once, and the edge at an index is that of the line there
pub above_at : (n : ℕ) (ms : List ℕ) (k : ℕ) → all_greater n ms ≡ true → k < length ms → n < get_or ms k 0
above_at n [] k rising there = absurd (omega arith)
above_at n (m ∷ ms) zero rising there = grind (arith, nat_tests, and_parts (nat_lt n m) (all_greater n ms) rising)
above_at n (m ∷ ms) (suc k) rising there = above_at n ms k (and_parts (nat_lt n m) (all_greater n ms) rising).1 (omega arith)

-- the line back adds its ends
pub degree_closed : (from to : Option ℕ) (es : List Edge) (j : ℕ)
    → degree (closing_edge from to ++ es) j ≡ closing_ends from to j + degree es j
degree_closed (Some f) (Some t) es j = refl
degree_closed (Some f) None es j = omega arith
degree_closed None to es j = omega arith

-- a walk that goes on
pub walk_append : (lines : List ℕ) (edges : List Edge) (at : Option ℕ) (xs ys : List Pass)
    → walk_end_from lines edges at (xs ++ ys) ≡ walk_end_from lines edges (walk_end_from lines edges at xs) ys
walk_append lines edges at [] ys = refl
walk_append lines edges at (x ∷ xs) ys = walk_append lines edges (after_pass lines edges x at) xs ys

-- and so are its junctions
pub degrees_few : (p : PieceValue) → IsValidPiece p → length p.degrees ≤ MAX_LINES + 1
degrees_few p keeps = grind (arith, nat_tests, length-degrees_from p.edges 0 (length p.junctions))

pub or_below : (n : ℕ) (x y : Option ℕ) → is_below n x ≡ true → is_below n y ≡ true → is_below n (option_or x y) ≡ true
or_below n (Some a) y f t = f
or_below n None y f t = t

-- Lists whose first items rise.
pub firsts_rise : (pieces : List (List ℕ)) → IsStrictlyIncreasing (map first_line pieces)
    → AllPairs (λ a b. first_line a < first_line b) pieces
firsts_rise pieces up = λ i. λ j. λ x. λ less. λ below.
    let wide = length-map pieces first_line in
    let pairs = AllPairs-from_increasing (map first_line pieces) up i j 0 less (omega (arith, wide, below)) in
    subst (λ (k : ℕ). k < first_line (get_or pieces j x)) (sym (at pieces i x (omega (arith, less, below))))
    (subst (λ (k : ℕ). get_or (map first_line pieces) i 0 < k) (sym (at pieces j x below)) pairs)
  where
    at : (pieces : List (List ℕ)) (i : ℕ) (x : List ℕ) → i < length pieces
        → first_line (get_or pieces i x) ≡ get_or (map first_line pieces) i 0
    at [] i x below = absurd (omega (arith, below))
    at (a ∷ pieces) zero x below = refl
    at (a ∷ pieces) (suc i) x below = at pieces i x (omega (arith, below))

-- and which of the two it is
pub is_even : (k : ℕ) → is_odd (2 * k) ≡ false
is_even k = grind (arith, nat_tests)

pub not_even : (k : ℕ) → is_odd (2 * k + 1) ≡ true
not_even k = grind (arith, nat_tests)

-- the edge at an index, where there is one
pub edge_there : (edges : List Edge) (k : ℕ) → k < length edges → (e : Edge) × (slice_get edges k ≡ Some e)
edge_there [] k below = absurd (omega arith)
edge_there (e ∷ edges) zero below = (e, refl)
edge_there (e ∷ edges) (suc k) below = edge_there edges k (omega arith)

pub length_of_lists : (pieces : List Piece) → length (lines_of_pieces pieces) ≡ length pieces
length_of_lists [] = refl
length_of_lists (p ∷ rest) = ap suc (length_of_lists rest)

pub stays_lost : (ns : List ℕ) (es : List Edge) (ps : List Pass) → walk_end_from ns es None ps ≡ None
stays_lost ns es [] = refl
stays_lost ns es (p ∷ ps) = stays_lost ns es ps

pub rest_rises : (n : ℕ) (lines : List ℕ) → is_strictly_increasing (n ∷ lines) ≡ true → is_strictly_increasing lines ≡ true
rest_rises n lines up = (and_parts (all_greater n lines) (is_strictly_increasing lines) up).1

-- the first of rising lines is less than each other, and the others rise
pub first_less : (n : ℕ) (lines : List ℕ) (k : ℕ) → is_strictly_increasing (n ∷ lines) ≡ true → k < length lines → n < get_or lines k 0
first_less n lines k up below = above_at n lines k (and_parts (all_greater n lines) (is_strictly_increasing lines) up).0 below

-- the edge of the line at an index
pub edge_found : (lines : List ℕ) (edges : List Edge) (k : ℕ) (e : Edge) → is_strictly_increasing lines ≡ true → k < length lines
    → slice_get edges k ≡ Some e → edge_of lines edges (get_or lines k 0) ≡ Some e
edge_found [] edges k e up below is = absurd (omega arith)
edge_found (n ∷ lines) [] k e up below is = absurd (cc)
edge_found (n ∷ lines) (x ∷ edges) zero e up below is = rw (eq_self n) is
edge_found (n ∷ lines) (x ∷ edges) (suc k) e up below is =
    let other : (get_or lines k 0 == n) ≡ false = differs_back n (get_or lines k 0) (first_less n lines k up (omega arith)) in
    rw other (edge_found lines edges k e (rest_rises n lines up) (omega arith) is)

-- the first line
pub first_is : (lines : List ℕ) → first_line lines ≡ get_or lines 0 0
first_is [] = refl
first_is (n ∷ lines) = refl

pub ends_at : (n : ℕ) (es : List Edge) (k : ℕ) (d : Edge) → ends_below n es ≡ true → k < length es
    → ((get_or es k d).a < n) × ((get_or es k d).b < n)
ends_at n [] k d ends lt = absurd (omega arith)
ends_at n (e ∷ es) zero d ends lt =
    let both = and_parts (nat_lt e.a n) (nat_lt e.b n) (and_parts (nat_lt e.a n && nat_lt e.b n) (ends_below n es) ends).0 in
    (ltb-true e.a n both.0, ltb-true e.b n both.1)
ends_at n (e ∷ es) (suc k) d ends lt =
    ends_at n es k d (and_parts (nat_lt e.a n && nat_lt e.b n) (ends_below n es) ends).1 (omega arith)

-- the commands of runs are their stops, their needles and a trim for each
pub commands_count : (block : ℕ) (runs : List Run)
    → length (commands_after block runs) ≡ stops_after block runs + (sum_by (λ (run : Run). length run.needles) runs + length runs)
commands_count block [] = omega arith
commands_count block (run ∷ rest) =
    omega (
      arith,
      commands_count run.block rest,
      length-append (replicate (run.block - block) Stop) (map (λ p. Stitch p) run.needles ++ Trim ∷ commands_after run.block rest),
      length-append (map (λ (p : Point). Stitch p) run.needles) (Trim ∷ commands_after run.block rest),
      length-map run.needles (λ (p : Point). Stitch p),
      length-replicate (run.block - block) Stop,
      sum_by-cons (λ (run : Run). length run.needles) run rest,
    )

-- a walk goes on as it began
pub begins_on : (line : ℕ) (xs ys : List Pass) → BeginsWith line xs → BeginsWith line (xs ++ ys)
begins_on line [] ys h = absurd h
begins_on line (x ∷ xs) ys h = h

pub ends_of_back : (n : ℕ) (from to : Option ℕ) (es : List Edge) → is_below n from ≡ true → is_below n to ≡ true
    → ends_below n es ≡ true → ends_below n (closing_edge from to ++ es) ≡ true
ends_of_back n None to es f t within = within
ends_of_back n (Some a) None es f t within = within
ends_of_back n (Some a) (Some b) es f t within = rw (f, t, within) refl

-- where a fitting walk goes from
pub goes_from : (x y : Option ℕ) → are_same_junction x y ≡ true → (to : ℕ) × (x ≡ Some to)
goes_from None y is = absurd (cc)
goes_from (Some a) y is = (a, refl)
