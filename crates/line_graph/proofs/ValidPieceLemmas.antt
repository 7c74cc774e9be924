-- The graph of a piece is valid: of lines that are connected, and that no other line touches.
use Rattle.std.proofs.Common.{◌≡◌, ◌<◌, ◌≤◌, ◌⊎◌, inl, inr, ℕ, zero, suc, pos, Bool, true, nat_le, List, [], ◌∷◌, length, map, get_or, slice_get, Some, All, AllPairs, Contains, sum_by, arith, refl, sym, ◌∙◌, ap, subst}
use Rattle.line_graph.proofs.Names.{nat_tests, length-map, All-contains, All-head, All-map, All-tail, AllPairs-from_increasing, sum_by-cons, position_or_len, Point, is_same_point, SplitPointsLead, Spot, Edge, DrawingValue, KeepsDrawingLimits, block_of, points_of, IsConnectedGraph, IsValidPiece, all_below, all_costs_positive, ends_below, is_below, steps_of_line, degree, edge_between, junctions_of, first_junction_among, junction_number, piece_graph, IsPiece, AreConnected, IsPathOfLines, LinesTouch, first_line, all_greater, is_strictly_increasing, cost_of_line, cost_is, line_there, less_test, IsLine, NoEdgeLeaves}
use Rattle.line_graph.proofs.LinkLemmas.{share_of}
use Rattle.line_graph.proofs.PieceLimits.{cost_of_piece, lines_cost, often, once, over_ones, sum_once}
use Rattle.line_graph.proofs.TreeLemmas.{junctions_few}
use Rattle.line_graph.proofs.TipLemmas.{IsTip, edges_within, junction_tips, junctions_differ, number_is}

-- which is found for all of them
ends_are_below : (n : ℕ) (edges : List Edge) → All (λ (e : Edge). (e.a < n) × (e.b < n)) edges → ends_below n edges ≡ true
ends_are_below n [] all = refl
ends_are_below n (e ∷ edges) all =
    let here = All-head (λ (e : Edge). (e.a < n) × (e.b < n)) e edges all in
    rw (
      less_test e.a n here.0,
      less_test e.b n here.1,
      ends_are_below n edges (All-tail (λ (e : Edge). (e.a < n)
          × (e.b < n)) e edges all),
    ) refl

-- a junction where an edge ends
record IsEndOf (d : DrawingValue) (lines : List ℕ) (j : ℕ) : Type 0 where
  line : ℕ
  among : Contains lines line
  at_end : ((edge_between d (junctions_of d lines) line).a ≡ j) ⊎ ((edge_between d (junctions_of d lines) line).b ≡ j)

-- a line with an end at a point has that end's number
tip_number : (d : DrawingValue) (js : List Point) (line : ℕ) (x : Point) → IsTip (points_of d line) x
    → ((edge_between d js line).a ≡ position_or_len (is_same_point x) js) ⊎
    ((edge_between d js line).b ≡ position_or_len (is_same_point x) js)
tip_number d js line x (inl is) = inl (ap (junction_number js) is)
tip_number d js line x (inr is) = inr (ap (junction_number js) is)

-- each junction is one
end_of_line : (d : DrawingValue) (lines : List ℕ) (j : ℕ) → j < length (junctions_of d lines) → IsEndOf d lines j
end_of_line d lines j below =
    let js : List Point = junctions_of d lines in
    let x : Point = get_or js j (record { x = pos 0; y = pos 0 }) in
    let tip = junction_tips d lines j (record { x = pos 0; y = pos 0 }) below in
    record {
      line = tip.line;
      among = tip.among;
      at_end = subst (λ (n : ℕ). ((edge_between d js tip.line).a ≡ n) ⊎ ((edge_between d js tip.line).b ≡ n))
          (number_is d lines j (record { x = pos 0; y = pos 0 }) below)
          (tip_number d js tip.line x tip.at_end);
    }

-- so it has a line end
degree_some : (edges : List Edge) (e : Edge) (i j : ℕ) → slice_get edges i ≡ Some e → (e.a ≡ j) ⊎ (e.b ≡ j) → 1 ≤ degree edges j
degree_some [] e i j is at = absurd (cc)
degree_some (x ∷ edges) e zero j is (inl at) = grind (arith, nat_tests)
degree_some (x ∷ edges) e zero j is (inr at) = grind (arith, nat_tests)
degree_some (x ∷ edges) e (suc i) j is at = omega (arith, degree_some edges e i j is at)

-- the edge of a line is at the line's index
edge_at : (f : ℕ → Edge) (lines : List ℕ) (line : ℕ) → Contains lines line → (i : ℕ) × (slice_get (map f lines) i ≡ Some (f line))
edge_at f [] line (k, below, is) = absurd (omega (arith, below))
edge_at f (x ∷ lines) line (zero, below, is) = (0, ap (λ (n : ℕ). Some (f n)) is)
edge_at f (x ∷ lines) line (suc k, below, is) = let rest = edge_at f lines line (k, omega (arith, below), is) in (suc rest.0, rest.1)

-- so each junction has one
junction_met : (d : DrawingValue) (lines : List ℕ) (j : ℕ) → j < length (junctions_of d lines)
    → 1 ≤ degree (map (edge_between d (junctions_of d lines)) lines) j
junction_met d lines j below =
    let end = end_of_line d lines j below in
    let f : ℕ → Edge = edge_between d (junctions_of d lines) in
    let place = edge_at f lines end.line end.among in
    degree_some (map f lines) (f end.line) place.0 j place.1 end.at_end

-- a set that no edge leaves
module _ (d : DrawingValue) (lines : List ℕ) (whole : (i j : ℕ) → Contains lines i → LinesTouch d i j → Contains lines j) (set : ℕ → Bool)
    (closed : NoEdgeLeaves (map (edge_between d (junctions_of d lines)) lines) set) where
  -- whether the line is in the set
  abbrev has : ℕ → Bool
  has line = set (edge_between d (junctions_of d lines) line).a

  other_end : (line : ℕ) → Contains lines line → has line ≡ set (edge_between d (junctions_of d lines) line).b
  other_end line among =
      let f : ℕ → Edge = edge_between d (junctions_of d lines) in
      let place = edge_at f lines line among in
      closed place.0 (f line) place.1

  at_number : (line n : ℕ) → Contains lines line
      → ((edge_between d (junctions_of d lines) line).a ≡ n) ⊎ ((edge_between d (junctions_of d lines) line).b ≡ n) → set n ≡ has line
  at_number line n among at = elim at [
    | inl is ↦ ap set (sym is)
    | inr is ↦ ap set (sym is) ∙ sym (other_end line among)
  ]

  touch_has : (i j : ℕ) → Contains lines i → LinesTouch d i j → has i ≡ has j
  touch_has i j among touch =
      let js : List Point = junctions_of d lines in
      let share = share_of d i j touch in
      let n : ℕ = position_or_len (is_same_point share.spot.at) js in
      sym (at_number i n among (tip_number d js i share.spot.at share.one.at_end))
      ∙ at_number j n (whole i j among touch) (tip_number d js j share.spot.at share.two.at_end)

  chain_has : (i j : ℕ) (chain : List ℕ) → Contains lines i → IsPathOfLines d i chain j → has i ≡ has j
  chain_has i j [] among leads = ap has leads
  chain_has i j (k ∷ chain) among leads = touch_has i k among leads.0 ∙ chain_has k j chain (whole i k among leads.0) leads.1

-- the lines connect all junctions
lines_join : (d : DrawingValue) (lines : List ℕ) → IsPiece d lines
    → IsConnectedGraph (map (edge_between d (junctions_of d lines)) lines) (length (junctions_of d lines))
lines_join d lines part set closed i j i_below j_below = to_first i i_below ∙ sym (to_first j j_below)
  where
    first_among : (lines : List ℕ) → 1 ≤ length lines → Contains lines (first_line lines)
    first_among [] some = absurd (omega (arith, some))
    first_among (x ∷ lines) some = (0, omega arith, refl)

    to_first : (n : ℕ) → n < length (junctions_of d lines) → set n ≡ has d lines part.whole set closed (first_line lines)
    to_first n below =
        let end = end_of_line d lines n below in
        let chain = All-contains (AreConnected d (first_line lines)) lines end.line part.joined end.among in
        at_number d lines part.whole set closed end.line n end.among end.at_end
        ∙ sym (chain_has d lines part.whole set closed (first_line lines) end.line chain.0 (first_among lines part.some) chain.1)

-- numbers that rise
rising_is : (lines : List ℕ) → AllPairs (λ x y. x < y) lines → is_strictly_increasing lines ≡ true
rising_is [] pairs = refl
rising_is (n ∷ lines) pairs =
    rw (
      all_above lines (λ k. λ x. λ below. pairs 0 (suc k) x (omega arith) (omega (arith, below))),
      rising_is lines (λ i. λ j. λ x. λ less. λ below. pairs (suc i) (suc j) x (omega (arith, less)) (omega (arith, below))),
    ) refl
  where
    all_above : (lines : List ℕ) → All (λ m. n < m) lines → all_greater n lines ≡ true
    all_above [] all = refl
    all_above (m ∷ lines) all = rw (
      less_test n m (All-head (λ m. n < m) m lines all),
      all_above lines
          (All-tail (λ m. n < m) m lines all),
    ) refl

-- indexes of lines are below the most
lines_are_below : (n most : ℕ) (lines : List ℕ) → n ≤ most → All (λ line. line < n) lines → all_below most lines ≡ true
lines_are_below n most [] less all = refl
lines_are_below n most (m ∷ lines) less all =
    rw (
      less_test m most (omega (arith, less, All-head (λ line. line < n) m lines all)),
      lines_are_below n most lines less (All-tail (λ line. line < n) m lines all),
    ) refl

-- as many ones as lines
ones_are : (lines : List ℕ) → sum_by (λ n. 1) lines ≡ length lines
ones_are [] = refl
ones_are (n ∷ lines) = omega (arith, sum_by-cons (λ (n : ℕ). 1) n lines, ones_are lines)

-- each line costs a step or more
line_some : SplitPointsLead → (step : ℕ) → 1 ≤ step → (points : List Point) → IsLine points → 1 ≤ steps_of_line step points
line_some lead step low [] able = absurd (omega (arith, able.long))
line_some lead step low (p ∷ []) able = absurd (omega (arith, able.long))
line_some lead step low (p ∷ q ∷ rest) able =
    let one = lead p q step able.moving.0 (able.in_range 0 p (omega arith)) (able.in_range 1 p (omega arith)) low in
    omega (arith, one.count, one.some)

-- and so each line of a drawing
cost_some : SplitPointsLead → (d : DrawingValue) → KeepsDrawingLimits d → (line : ℕ) → line < length d.lines → 1 ≤ cost_of_line d line
cost_some lead d keeps line there =
    omega (arith, cost_is d line there keeps, line_some lead d.step keeps.step_from (points_of d line) (line_there d line there keeps))

-- which is found for all edges
all_costs : (edges : List Edge) → All (λ (e : Edge). 1 ≤ e.cost) edges → all_costs_positive edges ≡ true
all_costs [] all = refl
all_costs (e ∷ edges) all =
    rw (
      least e.cost (All-head (λ (e : Edge). 1 ≤ e.cost) e edges all),
      all_costs edges
          (All-tail (λ (e : Edge). 1 ≤ e.cost) e edges all),
    ) refl
  where
    least : (n : ℕ) → 1 ≤ n → nat_le 1 n ≡ true
    least n some = grind (arith, nat_tests)

-- the number of a junction is below their count
among_below : (block : ℕ) (js : List Point) (spots : List Spot) → is_below (length js) (first_junction_among block js spots) ≡ true
among_below block js [] = refl
among_below block js (spot ∷ rest) = grind (arith, nat_tests, among_below block js rest)

-- the graph of lines that are connected, and that no other touches, is a piece
pub part_kept : SplitPointsLead → (d : DrawingValue) → KeepsDrawingLimits d → (lines : List ℕ) → IsPiece d lines
    → IsValidPiece (piece_graph d lines)
part_kept lead d keeps lines part =
    let js : List Point = junctions_of d lines in
    let edges : List Edge = map (edge_between d js) lines in
    let pairs = AllPairs-from_increasing lines part.rising in
    let each : (y : ℕ) → often y lines ≤ 1 = λ y. once y lines pairs in
    let count = sum_once (λ n. 1) (length d.lines) lines part.there each in
    let cost = sum_once (cost_of_line d) (length d.lines) lines part.there each in
    let beside = length-map lines (edge_between d js) in
    let joined = lines_join d lines part in
    record {
      some = part.some;
      few = omega (arith, count, over_ones 0 (length d.lines), ones_are lines, keeps.line_count);
      beside = sym beside;
      rising = rising_is lines pairs;
      lines_below = lines_are_below (length d.lines) 1024 lines keeps.line_count part.there;
      different = junctions_differ d lines;
      junctions_few = omega (arith, junctions_few edges (length js) joined, beside);
      ends = ends_are_below (length js) edges (edges_within d keeps lines part.there);
      met = junction_met d lines;
      joined = joined;
      counted = refl;
      costs = all_costs edges (All-map (λ (e : Edge). 1 ≤ e.cost) (edge_between d js) lines
          (λ k. λ x. λ below. cost_some lead d keeps (get_or lines k x) (part.there k x below)));
      cost_few = omega (arith, cost_of_piece d js lines, cost, lines_cost d keeps, keeps.cost);
      start_below = among_below (block_of d (first_line lines)) js d.starts;
      end_below = among_below (block_of d (first_line lines)) js d.ends;
    }
