-- The pieces of a drawing within its limits: each line is in one of them.
use Rattle.std.proofs.Common.{◌≡◌, ◌≢◌, ◌≤◌, ◌<◌, ℕ, zero, suc, ◌+◌, ◌-◌, ◌*◌, ◌==◌, Bool, true, false, cond, List, [], ◌∷◌, ◌++◌, length, map, get_or, slice_get, Some, All, AllPairs, Contains, sum_by, arith, refl, sym, ◌∙◌, ap, subst}
use Rattle.line_graph.proofs.Names.{nat_tests, and_parts, All-contains, All-head, All-tail, AllPairs-from_increasing, sum_by-cons, length-map, AllZip, concat, IsStrictlyIncreasing, LineValue, Pass, DrawingValue, KeepsDrawingLimits, optional_line_block, block_of, endpoints, steps_of_line, edge_between, junctions_of, piece_graph, AreConnected, IsPathOfLines, LinesTouch, first_line, shares_point, edge_cost, edge_sum, piece_cost, block_of_passes, runs_of, stops_after, GoesAlong, PiecesKeepLimits, cost_of_line, cost_is, same_number, slice_get_within, sum_over}
use Rattle.line_graph.proofs.PieceLemmas.{touch_turned}
use Rattle.line_graph.proofs.CallerLemmas.{firsts_rise}

-- how often a number is in a list
abbrev pub often : ℕ → List ℕ → ℕ
often n [] = 0
often n (x ∷ xs) = cond (x == n) 1 0 + often n xs

often_append : (n : ℕ) (xs ys : List ℕ) → often n (xs ++ ys) ≡ often n xs + often n ys
often_append n [] ys = omega arith
often_append n (x ∷ xs) ys = omega (arith, often_append n xs ys)

-- a number that is in a list has an index in it
there : (n : ℕ) (xs : List ℕ) → 1 ≤ often n xs → Contains xs n
there n [] some = absurd (omega arith)
there n (x ∷ xs) some = by_test (x == n) refl (λ h. there n xs h) some
  where
    strip : (k : ℕ) → 1 ≤ 0 + k → 1 ≤ k
    strip k some = omega arith

    by_test : (t : Bool) → (x == n) ≡ t → (1 ≤ often n xs → Contains xs n) → 1 ≤ cond (x == n) 1 0 + often n xs → Contains (x ∷ xs) n
    by_test true is rest some = (0, omega arith, same_number x n is)
    by_test false is rest some =
        let r = rest (strip (often n xs) (subst (λ (t : Bool). 1 ≤ cond t 1 0 + often n xs) is some)) in
        (suc r.0, omega (arith, r.1), r.2)

-- numbers that differ are each in the list once at most
pub once : (n : ℕ) (xs : List ℕ) → AllPairs (λ x y. x < y) xs → often n xs ≤ 1
once n [] pairs = omega arith
once n (x ∷ xs) pairs = by_test (x == n) refl (once n xs (λ i. λ j. λ d. λ less. λ below. pairs (suc i) (suc j) d (omega (arith, less))
    (omega (arith, below))))
  where
    none_later : (ys : List ℕ) → ((j : ℕ) → j < length ys → x < get_or ys j 0) → x ≡ n → often n ys ≡ 0
    none_later [] more is = refl
    none_later (y ∷ ys) more is =
        let other : (y == n) ≡ false = differs x y n (more 0 (omega arith)) is in
        rw (other, none_later ys (λ j. λ below. more (suc j) (omega (arith, below))) is) refl
      where
        differs : (x y n : ℕ) → x < y → x ≡ n → (y == n) ≡ false
        differs x y n less is = grind (arith, nat_tests)

    by_test : (t : Bool) → (x == n) ≡ t → often n xs ≤ 1 → cond (x == n) 1 0 + often n xs ≤ 1
    by_test true is rest =
        rw (is, none_later xs (λ j. λ below. pairs 0 (suc j) 0 (omega arith) (omega (arith, below))) (same_number x n is)) (omega arith)
    by_test false is rest = rw is (omega (arith, rest))

over_one : (f : ℕ → ℕ) (x at n : ℕ) → at ≤ x → x < at + n → f x ≤ sum_over (λ y. cond (x == y) 1 0 * f y) at n
over_one f x at zero from to = absurd (omega arith)
over_one f x at (suc n) from to = grind (arith, nat_tests, over_one f x (at + 1) n, same_number x)

over_both : (f g h : ℕ → ℕ) → ((y : ℕ) → h y ≡ f y + g y) → (at n : ℕ) → sum_over h at n ≡ sum_over f at n + sum_over g at n
over_both f g h is at zero = refl
over_both f g h is at (suc n) = omega (arith, is at, over_both f g h is (at + 1) n)

over_less : (f g : ℕ → ℕ) → ((y : ℕ) → f y ≤ g y) → (at n : ℕ) → sum_over f at n ≤ sum_over g at n
over_less f g less at zero = omega arith
over_less f g less at (suc n) = omega (arith, less at, over_less f g less (at + 1) n)

-- a sum over numbers is that over the range, each as often as it is there
sum_often : (f : ℕ → ℕ) (n : ℕ) (xs : List ℕ) → All (λ x. x < n) xs → sum_by f xs ≤ sum_over (λ y. often y xs * f y) 0 n
sum_often f n [] below = omega arith
sum_often f n (x ∷ xs) below =
    let here = over_one f x 0 n (omega arith) (omega (arith, All-head (λ x. x < n) x xs below)) in
    let rest = sum_often f n xs (All-tail (λ x. x < n) x xs below) in
    let both = over_both (λ y. cond (x == y) 1 0 * f y) (λ y. often y xs * f y) (λ y. often y (x ∷ xs) * f y)
    (λ y. spread (cond (x == y) 1 0) (often y xs) (f y)) 0 n in
    omega (arith, sum_by-cons f x xs, here, rest, both)
  where
    spread : (a b k : ℕ) → (a + b) * k ≡ a * k + b * k
    spread a b k = omega arith

-- so one over numbers that are there once is at most that over the range
pub sum_once : (f : ℕ → ℕ) (n : ℕ) (xs : List ℕ) → All (λ x. x < n) xs → ((y : ℕ) → often y xs ≤ 1) → sum_by f xs ≤ sum_over f 0 n
sum_once f n xs below few =
    let all = sum_often f n xs below in
    let less = over_less (λ y. often y xs * f y) f (λ y. at_most (often y xs) (f y) (few y)) 0 n in
    omega (arith, all, less)
  where
    at_most : (a k : ℕ) → a ≤ 1 → a * k ≤ k
    at_most zero k h = omega arith
    at_most (suc zero) k h = omega arith
    at_most (suc (suc a)) k h = absurd (omega arith)

-- chains lead on and back
pub leads_on : (d : DrawingValue) (i j k : ℕ) (first then : List ℕ) → IsPathOfLines d i first j → IsPathOfLines d j then k
    → IsPathOfLines d i (first ++ then) k
leads_on d i j k [] then is on = subst (λ (n : ℕ). IsPathOfLines d n then k) (sym is) on
leads_on d i j k (m ∷ first) then is on = (is.0, leads_on d m j k first then is.1 on)

pub leads_back : (d : DrawingValue) (i j : ℕ) (chain : List ℕ) → IsPathOfLines d i chain j → AreConnected d j i
leads_back d i j [] is = ([], sym is)
leads_back d i j (k ∷ chain) is =
    let back = leads_back d k j chain is.1 in
    (back.0 ++ i ∷ [], leads_on d j k i back.0 (i ∷ []) back.1 (turned is.0, refl))
  where
    turned : LinesTouch d i k → LinesTouch d k i
    turned t = record { one = t.other; other = t.one; one_is = t.other_is; other_is = t.one_is; touch = touch_turned t.one t.other t.touch }

-- connected lines are in one block
one_block : (d : DrawingValue) (i j : ℕ) (chain : List ℕ) → IsPathOfLines d i chain j → block_of d i ≡ block_of d j
one_block d i j [] is = ap (block_of d) is
one_block d i j (k ∷ chain) is = step is.0 ∙ one_block d k j chain is.1
  where
    step : LinesTouch d i k → block_of d i ≡ block_of d k
    step t =
        let block = same_number t.one.block t.other.block (and_parts (t.one.block == t.other.block)
        (shares_point (endpoints t.one.points) (endpoints t.other.points)) t.touch).0 in
        ap optional_line_block t.one_is ∙ block ∙ sym (ap optional_line_block t.other_is)

-- no line is in two pieces
apart : (d : DrawingValue) (a b : List ℕ) (n : ℕ) → All (AreConnected d (first_line a)) a → All (AreConnected d (first_line b)) b
    → (AreConnected d (first_line a) (first_line b) → ⊥) → Contains a n → Contains b n → ⊥
apart d a b n joins_a joins_b other in_a in_b =
    let to = All-contains (AreConnected d (first_line a)) a n joins_a in_a in
    let from = All-contains (AreConnected d (first_line b)) b n joins_b in_b in
    let back = leads_back d (first_line b) n from.0 from.1 in
    other (to.0 ++ back.0, leads_on d (first_line a) n (first_line b) to.0 back.0 to.1 back.1)

-- the pieces from one on
record Rest (d : DrawingValue) (pieces : List (List ℕ)) : Type 0 where
  joined : All (λ piece. All (AreConnected d (first_line piece)) piece) pieces
  apart_all : AllPairs (λ a b. AreConnected d (first_line a) (first_line b) → ⊥) pieces
  rising : All IsStrictlyIncreasing pieces

rest_of : (d : DrawingValue) (a : List ℕ) (pieces : List (List ℕ)) → Rest d (a ∷ pieces) → Rest d pieces
rest_of d a pieces r = record {
  joined = All-tail (λ piece. All (AreConnected d (first_line piece)) piece) a pieces r.joined;
  apart_all = λ i. λ j. λ x. λ less. λ below. r.apart_all (suc i) (suc j) x (omega (arith, less)) (omega (arith, below));
  rising = All-tail IsStrictlyIncreasing a pieces r.rising;
}

none_in : (d : DrawingValue) (a : List ℕ) (n : ℕ) → Contains a n → All (AreConnected d (first_line a)) a → (pieces : List (List ℕ))
    → All (λ piece. All (AreConnected d (first_line piece)) piece) pieces
    → ((j : ℕ) → j < length pieces → AreConnected d (first_line a) (first_line (get_or pieces j [])) → ⊥) → often n (concat pieces) ≡ 0
none_in d a n in_a joins [] all other = refl
none_in d a n in_a joins (b ∷ pieces) all other =
    let rest = none_in d a n in_a joins pieces (All-tail (λ piece. All (AreConnected d (first_line piece)) piece) b pieces all)
    (λ j. λ below. other (suc j) (omega (arith, below))) in
    omega (arith, often_append n b (concat pieces), rest, by_number (often n b) refl)
  where
    by_number : (k : ℕ) → often n b ≡ k → often n b ≡ 0
    by_number zero is = is
    by_number (suc k) is = absurd (apart d a b n joins (All-head (λ piece. All (AreConnected d (first_line piece)) piece) b pieces all)
        (other 0 (omega arith)) in_a
        (there n b (omega (arith, is))))

each_once : (d : DrawingValue) (pieces : List (List ℕ)) → Rest d pieces → (n : ℕ) → often n (concat pieces) ≤ 1
each_once d [] r n = omega arith
each_once d (a ∷ pieces) r n = by_number (often n a) refl
    (once n a (AllPairs-from_increasing a (All-head IsStrictlyIncreasing a pieces r.rising))) (each_once d pieces (rest_of d a pieces r) n)
  where
    by_number : (k : ℕ) → often n a ≡ k → often n a ≤ 1 → often n (concat pieces) ≤ 1 → often n (a ++ concat pieces) ≤ 1
    by_number zero is few rest = omega (arith, often_append n a (concat pieces), is, rest)
    by_number (suc k) is few rest =
        let none = none_in d a n (there n a (omega (arith, is)))
        (All-head (λ piece. All (AreConnected d (first_line piece)) piece) a pieces r.joined) pieces
        (All-tail (λ piece. All (AreConnected d (first_line piece)) piece) a pieces r.joined)
        (λ j. λ below. r.apart_all 0 (suc j) [] (omega arith) (omega (arith, below))) in
        omega (arith, often_append n a (concat pieces), few, none)

sum_append : (f : ℕ → ℕ) (xs ys : List ℕ) → sum_by f (xs ++ ys) ≡ sum_by f xs + sum_by f ys
sum_append f [] ys = omega arith
sum_append f (x ∷ xs) ys = omega (arith, sum_by-cons f x (xs ++ ys), sum_by-cons f x xs, sum_append f xs ys)

-- what a piece costs is what its lines cost
pub cost_of_piece : (d : DrawingValue) (js : List _) (lines : List ℕ) → edge_sum edge_cost (map (edge_between d js) lines)
    ≡ sum_by (cost_of_line d) lines
cost_of_piece d js [] = refl
cost_of_piece d js (line ∷ lines) = omega (arith, cost_of_piece d js lines, sum_by-cons (cost_of_line d) line lines)

pieces_cost : (d : DrawingValue) (pieces : List (List ℕ)) → sum_by (λ lines. piece_cost (piece_graph d lines)) pieces
    ≡ sum_by (cost_of_line d) (concat pieces)
pieces_cost d [] = refl
pieces_cost d (lines ∷ pieces) =
    omega (
      arith,
      sum_by-cons (λ lines. piece_cost (piece_graph d lines)) lines pieces,
      cost_of_piece d (junctions_of d lines) lines,
      pieces_cost d pieces,
      sum_append (cost_of_line d) lines (concat pieces),
    )

pieces_count : (pieces : List (List ℕ)) → All (λ piece. piece ≢ []) pieces → length pieces ≤ sum_by (λ n. 1) (concat pieces)
pieces_count [] filled = omega arith
pieces_count (lines ∷ pieces) filled =
    omega (
      arith,
      sum_append (λ n. 1) lines (concat pieces),
      some lines (All-head (λ piece. piece ≢ []) lines pieces filled),
      pieces_count pieces (All-tail (λ piece. piece ≢ []) lines pieces filled),
    )
  where
    some : (lines : List ℕ) → lines ≢ [] → 1 ≤ sum_by (λ n. 1) lines
    some [] filled = absurd (filled refl)
    some (n ∷ lines) filled = omega (arith, sum_by-cons (λ (n : ℕ). 1) n lines)

pub over_ones : (at n : ℕ) → sum_over (λ y. 1) at n ≡ n
over_ones at zero = refl
over_ones at (suc n) = omega (arith, over_ones (at + 1) n)

-- a sum over the places of a list is that over its items
over_items : (g : LineValue → ℕ) (f : ℕ → ℕ) (items : List LineValue) (at : ℕ)
    → ((k : ℕ) (x : LineValue) → slice_get items k ≡ Some x → f (at + k) ≡ g x) → sum_over f at (length items) ≡ sum_by g items
over_items g f [] at is = refl
over_items g f (x ∷ items) at is =
    omega (
      arith,
      sum_by-cons g x items,
      ap f (none at),
      is 0 x refl,
      over_items g f items (at + 1) (λ k. λ y. λ here. ap f (next at k) ∙ is (suc k) y here),
    )
  where
    none : (at : ℕ) → at ≡ at + 0
    none at = omega arith

    next : (at k : ℕ) → (at + 1) + k ≡ at + suc k
    next at k = omega arith

-- what a line of a drawing costs is its steps
line_cost : (d : DrawingValue) → KeepsDrawingLimits d → (k : ℕ) (x : LineValue) → slice_get d.lines k ≡ Some x → cost_of_line d k
    ≡ steps_of_line d.step x.points
line_cost d keeps k x here =
    grind (arith, nat_tests, cost_is d k (slice_get_within d.lines k x here) keeps, slice_get_within d.lines k x here)

pub lines_cost : (d : DrawingValue) → KeepsDrawingLimits d → sum_over (cost_of_line d) 0 (length d.lines)
    ≡ sum_by (λ (line : LineValue). steps_of_line d.step line.points) d.lines
lines_cost d keeps = over_items (λ (line : LineValue). steps_of_line d.step line.points) (cost_of_line d) d.lines 0
    (λ k. λ x. λ here. ap (cost_of_line d) (none k) ∙ line_cost d keeps k x here)
  where
    none : (k : ℕ) → 0 + k ≡ k
    none k = omega arith

-- the block of a line, by its place
block_at : (d : DrawingValue) (i : ℕ) → i < length d.lines → block_of d i ≡ get_or (map (λ (line : LineValue). line.block) d.lines) i 0
block_at d i below = at d.lines i below
  where
    at : (lines : List LineValue) (i : ℕ) → i < length lines → optional_line_block (slice_get lines i)
        ≡ get_or (map (λ (line : LineValue). line.block) lines) i 0
    at [] i below = absurd (omega arith)
    at (x ∷ lines) zero below = refl
    at (x ∷ lines) (suc i) below = at lines i (omega arith)

-- later lines stand in later blocks, or in the same one
blocks_rise : (d : DrawingValue) → KeepsDrawingLimits d → (i j : ℕ) → i ≤ j → j < length d.lines → block_of d i ≤ block_of d j
blocks_rise d keeps i j less below =
    let wide : length (map (λ (line : LineValue). line.block) d.lines) ≡ length d.lines =
    length-map d.lines (λ (line : LineValue). line.block) in
    let up = keeps.ordered i j 0 less (omega (arith, wide, below)) in
    omega (arith, block_at d i (omega (arith, less, below)), block_at d j below, up)

-- blocks of the pieces from one on
record Blocks (d : DrawingValue) (block : ℕ) (pieces : List (List ℕ)) : Type 0 where
  filled : All (λ piece. piece ≢ []) pieces
  below : All (λ line. line < length d.lines) (concat pieces)
  joined : All (λ piece. All (AreConnected d (first_line piece)) piece) pieces
  rising : All (λ piece. block ≤ block_of d (first_line piece)) pieces
  ordered : AllPairs (λ a b. first_line a < first_line b) pieces

-- the block of a walk along a piece
walk_block : (d : DrawingValue) (piece : List ℕ) (walk : List Pass) → All (AreConnected d (first_line piece)) piece → GoesAlong piece walk
    → block_of_passes d walk ≡ block_of d (first_line piece)
walk_block d piece [] joins along = absurd (omega (arith, along.some))
walk_block d piece (p ∷ walk) joins along =
    let to = All-contains (AreConnected d (first_line piece)) piece p.line joins
    (All-head (λ (pass : Pass). Contains piece pass.line) p walk along.there) in
    sym (one_block d (first_line piece) p.line to.0 to.1)

first_there : (d : DrawingValue) (a : List ℕ) (pieces : List (List ℕ)) → a ≢ [] → All (λ line. line < length d.lines) (concat (a ∷ pieces))
    → first_line a < length d.lines
first_there d [] pieces filled below = absurd (filled refl)
first_there d (n ∷ a) pieces filled below = All-head (λ line. line < length d.lines) n (a ++ concat pieces) below

few_stops : (d : DrawingValue) → KeepsDrawingLimits d → (block : ℕ) → block < length d.threads → (pieces : List (List ℕ))
    → Blocks d block pieces
    → (walks : List (List Pass)) → AllZip GoesAlong pieces walks → stops_after block (runs_of d walks) + block + 1 ≤ length d.threads
few_stops d keeps block within [] b [] along = omega (arith, within)
few_stops d keeps block within [] b (walk ∷ walks) along = absurd along
few_stops d keeps block within (a ∷ pieces) b [] along = absurd along
few_stops d keeps block within (a ∷ pieces) b (walk ∷ walks) along =
    let here = walk_block d a walk (All-head (λ piece. All (AreConnected d (first_line piece)) piece) a pieces b.joined) along.0 in
    let first = first_there d a pieces (All-head (λ piece. piece ≢ []) a pieces b.filled) b.below in
    let up = All-head (λ piece. block ≤ block_of d (first_line piece)) a pieces b.rising in
    let rest = few_stops d keeps (block_of d (first_line a)) (block_within d keeps (first_line a) first) pieces (record {
      filled = All-tail (λ piece. piece ≢ []) a pieces b.filled;
      below = All-behind (λ line. line < length d.lines) a (concat pieces) b.below;
      joined = All-tail (λ piece. All (AreConnected d (first_line piece)) piece) a pieces b.joined;
      rising = λ k. λ x. λ below_k. blocks_rise d keeps (first_line a) (first_line (get_or pieces k x))
          (less_or_same (b.ordered 0 (suc k) x (omega arith) (omega (arith, below_k))))
          (first_at d pieces k x below_k (All-tail (λ piece. piece ≢ []) a pieces b.filled)
          (All-behind (λ line. line < length d.lines) a (concat pieces) b.below));
      ordered = λ i. λ j. λ x. λ less. λ below_j. b.ordered (suc i) (suc j) x (omega (arith, less)) (omega (arith, below_j));
    }) walks along.1 in
    stop (block_of_passes d walk) (block_of d (first_line a)) block (length d.threads)
    (stops_after (block_of_passes d walk) (runs_of d walks))
    (stops_after (block_of d (first_line a)) (runs_of d walks)) here (ap (λ (n : ℕ). stops_after n (runs_of d walks)) here) up rest
  where
    less_or_same : {m n : ℕ} → m < n → m ≤ n
    less_or_same h = omega arith

    stop : (w c block n s r : ℕ) → w ≡ c → s ≡ r → block ≤ c → r + c + 1 ≤ n → ((w - block) + s) + block + 1 ≤ n
    stop w c block n s r is same_number up rest = omega arith

    All-behind : (P : ℕ → Type 0) (xs ys : List ℕ) → All P (xs ++ ys) → All P ys
    All-behind P [] ys all = all
    All-behind P (x ∷ xs) ys all = All-behind P xs ys (All-tail P x (xs ++ ys) all)

    first_at : (d : DrawingValue) (pieces : List (List ℕ)) (k : ℕ) (x : List ℕ) → k < length pieces → All (λ piece. piece ≢ []) pieces
        → All (λ line. line < length d.lines) (concat pieces) → first_line (get_or pieces k x) < length d.lines
    first_at d [] k x below filled all = absurd (omega arith)
    first_at d (a ∷ pieces) zero x below filled all = first_there d a pieces (All-head (λ piece. piece ≢ []) a pieces filled) all
    first_at d (a ∷ pieces) (suc k) x below filled all =
        first_at d pieces k x (omega arith) (All-tail (λ piece. piece ≢ []) a pieces filled)
        (All-behind (λ line. line < length d.lines) a (concat pieces) all)

    block_within : (d : DrawingValue) → KeepsDrawingLimits d → (line : ℕ) → line < length d.lines → block_of d line < length d.threads
    block_within d keeps line below = at d.lines line below keeps.there
      where
        at : (lines : List LineValue) (i : ℕ) → i < length lines → All (λ (line : LineValue). line.block < length d.threads) lines
            → optional_line_block (slice_get lines i) < length d.threads
        at [] i below all = absurd (omega arith)
        at (x ∷ lines) zero below all = All-head (λ (line : LineValue). line.block < length d.threads) x lines all
        at (x ∷ lines) (suc i) below all = at lines i (omega arith)
            (All-tail (λ (line : LineValue). line.block < length d.threads) x lines all)

pub pieces_keep_limits : PiecesKeepLimits
pieces_keep_limits d pieces keeps are =
    let each = each_once d pieces (record { joined = are.joined; apart_all = are.apart; rising = are.rising }) in
    record {
      cost = omega (
        arith,
        pieces_cost d pieces,
        sum_once (cost_of_line d) (length d.lines)
            (concat pieces) are.there each,
        lines_cost d keeps,
        keeps.cost,
      );
      count = omega (
        arith,
        pieces_count pieces are.filled,
        sum_once (λ n. 1) (length d.lines) (concat pieces) are.there each,
        over_ones 0
            (length d.lines),
        keeps.line_count,
      );
      stops = λ walks. λ along.
          omega (
            arith,
            few_stops d keeps 0 (omega (arith, keeps.blocks_from)) pieces (record {
              filled = are.filled;
              below = are.there;
              joined = are.joined;
              rising = λ k. λ x. λ below. omega arith;
              ordered = firsts_rise pieces are.ordered;
            }) walks along,
          );
    }
