-- The fitting walks over the graph of a piece are the threads over its lines.
use Rattle.std.proofs.Common.{◌≡◌, ℕ, zero, suc, ◌<◌, ◌≤◌, ◌==◌, ◌&&◌, ◌||◌, Bool, true, false, cond, nat_lt, List, [], ◌∷◌, length, map, get_or, slice_get, Option, Some, None, option_map, position, All, AllPairs, Contains, arith, refl, sym, ◌∙◌, ap, subst}
use Rattle.line_graph.proofs.Names.{nat_tests, and_parts, All-cons, All-head, All-nil, All-tail, list_any, position_or_len, option_or, Point, is_same_point, Spot, Edge, Pass, DrawingValue, KeepsDrawingLimits, block_of, first_point, last_point, NeedlesLeadAlong, edge_between, first_junction_among, junction_number, junctions_of, piece_graph, first_line, after_edge, are_same_junction, covers, edge_of, is_fitting_walk, is_walk_start_to_end, pass_end, pass_start, walk_end_from, IsValidPiece, needles_of_pass, same_found, less_test, number_found, same_number, both_ways, FittingWalksAreThreads, GivenPointsAreJunctions, IsThreadOver, KeepsGivenEnds, Leads, given_point, is_line_passed, pass_start_on, walk_start}
use Rattle.line_graph.proofs.SewnWalkLemmas.{Passed, found, junction_at, passed}
use Rattle.line_graph.proofs.TipLemmas.{found_below}
use Rattle.line_graph.proofs.CallerLemmas.{lost}

not_less : (m n : ℕ) → m ≡ n → nat_lt m n ≡ false
not_less m n same = grind (arith, nat_tests)

-- an item that is found in a list is at its index
got : (ps : List Point) (i : ℕ) (p : Point) → slice_get ps i ≡ Some p → (i < length ps) × (get_or ps i p ≡ p)
got [] i p is = absurd (cc)
got (q ∷ ps) zero p is = (omega arith, cc)
got (q ∷ ps) (suc i) p is = let rest = got ps i p is in (omega (arith, rest.0), rest.1)

-- junctions at one point have one number
number_of_point : (js : List Point) → AllPairs (λ a b. is_same_point a b ≡ false) js → (m n : ℕ) (p : Point) → slice_get js m ≡ Some p
    → slice_get js n ≡ Some p → m ≡ n
number_of_point js differ m n p at_m at_n = by_order (nat_lt m n) (nat_lt n m) refl refl
  where
    apart : (i j : ℕ) → slice_get js i ≡ Some p → slice_get js j ≡ Some p → i < j → ⊥
    apart i j at_i at_j less =
        let one = got js i p at_i in
        let two = got js j p at_j in
        both_ways (is_same_point p p)
        (subst (λ (q : Point). is_same_point q p ≡ false) one.1
        (subst (λ (q : Point). is_same_point (get_or js i p) q ≡ false) two.1 (differ i j p less two.0)))
        (same_found p p refl)

    neither : nat_lt m n ≡ false → nat_lt n m ≡ false → m ≡ n
    neither less more = grind (arith, nat_tests, less, more)

    by_order : (t u : Bool) → nat_lt m n ≡ t → nat_lt n m ≡ u → m ≡ n
    by_order true u less more = absurd (apart m n at_m at_n (grind (arith, nat_tests)))
    by_order false true less more = absurd (apart n m at_n at_m (grind (arith, nat_tests)))
    by_order false false less more = neither less more

-- the edge of a line that is among the lines
edge_found : (f : ℕ → Edge) (lines : List ℕ) (line : ℕ) → Contains lines line → edge_of lines (map f lines) line ≡ Some (f line)
edge_found f [] line (k, below, is) = absurd (omega (arith, below))
edge_found f (n ∷ lines) line among = grind (arith, nat_tests, edge_found f lines line, same_number line n, number_found line n)

-- a walk passes the lines of its passes
passed_among : (line : ℕ) (walk : List Pass) → is_line_passed line walk ≡ true → Contains (map (λ (pass : Pass). pass.line) walk) line
passed_among line [] is = absurd (cc)
passed_among line (pass ∷ rest) is = by_test (pass.line == line) refl is (λ later. passed_among line rest later)
  where
    by_test : (t : Bool) → (pass.line == line) ≡ t → (t || is_line_passed line rest) ≡ true
        → (is_line_passed line rest ≡ true → Contains (map (λ (pass : Pass). pass.line) rest) line)
        → Contains (map (λ (pass : Pass). pass.line) (pass ∷ rest)) line
    by_test true test is later = (0, omega arith, same_number pass.line line test)
    by_test false test is later = let more = later is in (suc more.0, omega (arith, more.1), more.2)

among_passed : (line : ℕ) (walk : List Pass) → Contains (map (λ (pass : Pass). pass.line) walk) line → is_line_passed line walk ≡ true
among_passed line [] (k, below, is) = absurd (omega (arith, below))
among_passed line (pass ∷ rest) has = grind (arith, nat_tests, among_passed line rest, number_found pass.line line)

covered_by : (lines : List ℕ) (walk : List Pass) → covers lines walk ≡ true → All (Contains (map (λ (pass : Pass). pass.line) walk)) lines
covered_by [] walk is = All-nil (Contains (map (λ (pass : Pass). pass.line) walk))
covered_by (line ∷ lines) walk is =
    let parts = and_parts (is_line_passed line walk) (covers lines walk) is in
    All-cons (Contains (map (λ (pass : Pass). pass.line) walk)) line lines (passed_among line walk parts.0) (covered_by lines walk parts.1)

covers_all : (lines : List ℕ) (walk : List Pass) → All (Contains (map (λ (pass : Pass). pass.line) walk)) lines → covers lines walk ≡ true
covers_all [] walk all = refl
covers_all (line ∷ lines) walk all =
    rw (
      among_passed line walk (All-head (Contains (map (λ (pass : Pass). pass.line) walk)) line lines all),
      covers_all lines walk (All-tail (Contains (map (λ (pass : Pass). pass.line) walk)) line lines all),
    ) refl

-- a junction and its point, or neither
abbrev IsAt : List Point → Option ℕ → Option Point → Type 0
IsAt js None None = Unit {0}
IsAt js None (Some p) = ⊥
IsAt js (Some n) None = ⊥
IsAt js (Some n) (Some p) = slice_get js n ≡ Some p

-- where nothing is found, the position is the length
none_found : (test : Point → Bool) (ps : List Point) → list_any test ps ≡ false → position_or_len test ps ≡ length ps
none_found test [] none = refl
none_found test (p ∷ ps) none = grind (arith, nat_tests, none_found test ps)

-- the given junction has the number of the given point
pub given_numbers : GivenPointsAreJunctions
given_numbers d lines [] = refl
given_numbers d lines (spot ∷ rest) =
    by_block (spot.block == block_of d (first_line lines)) (list_any (is_same_point spot.at) (junctions_of d lines)) refl
    (given_numbers d lines rest)
  where
    js : List Point
    js = junctions_of d lines

    more : Option ℕ
    more = first_junction_among (block_of d (first_line lines)) js rest

    numbered : Option Point → Option ℕ
    numbered o = option_map (λ p. junction_number js (Some p)) o

    n : ℕ
    n = position_or_len (is_same_point spot.at) js

    low : list_any (is_same_point spot.at) js ≡ true → nat_lt n (length js) ≡ true
    low is = less_test n (length js) (found_below (is_same_point spot.at) js is)

    high : list_any (is_same_point spot.at) js ≡ false → nat_lt n (length js) ≡ false
    high is = not_less n (length js) (none_found (is_same_point spot.at) js is)

    by_block : (t u : Bool) → list_any (is_same_point spot.at) js ≡ u → more ≡ numbered (given_point d lines rest)
        → option_or (cond t (position (is_same_point spot.at) js) None) more
        ≡ numbered (cond (t && u) (Some spot.at) (given_point d lines rest))
    by_block true true is later = rw (low is) refl
    by_block true false is later = rw (high is) later
    by_block false u is later = later

-- a given point is that of its junction
given_at : (d : DrawingValue) (lines : List ℕ) (spots : List Spot)
    → IsAt (junctions_of d lines) (first_junction_among (block_of d (first_line lines)) (junctions_of d lines) spots)
    (given_point d lines spots)
given_at d lines spots =
    subst (λ (o : Option ℕ). IsAt (junctions_of d lines) o (given_point d lines spots)) (sym (given_numbers d lines spots))
    (all_at spots)
  where
    js : List Point
    js = junctions_of d lines

    at_spot : (spot : Spot) (rest : List Spot) (t u : Bool) → list_any (is_same_point spot.at) js ≡ u
        → IsAt js (option_map (λ p. junction_number js (Some p)) (given_point d lines rest)) (given_point d lines rest)
        → IsAt js (option_map (λ p. junction_number js (Some p)) (cond (t && u) (Some spot.at) (given_point d lines rest)))
        (cond (t && u) (Some spot.at) (given_point d lines rest))
    at_spot spot rest true true is later = junction_at js (Some spot.at) (found_below (is_same_point spot.at) js is)
    at_spot spot rest true false is later = later
    at_spot spot rest false u is later = later

    all_at : (spots : List Spot)
        → IsAt js (option_map (λ p. junction_number js (Some p)) (given_point d lines spots)) (given_point d lines spots)
    all_at [] = tt
    all_at (spot ∷ rest) = grind (arith, nat_tests, at_spot spot rest (spot.block == block_of d (first_line lines)), js, all_at rest)

-- a thread that leads between two points
record Runs (d : DrawingValue) (lines : List ℕ) (walk : List Pass) (start end : Option Point) : Type 0 where
  from : Option Point
  to : Option Point
  drawn : All (λ (pass : Pass). Contains lines pass.line) walk
  leads : Leads d from walk to
  ends : KeepsGivenEnds start end from to

module _ (d : DrawingValue) (keeps : KeepsDrawingLimits d) (law : NeedlesLeadAlong d) (lines : List ℕ)
    (there : All (λ line. line < length d.lines) lines) (kept : IsValidPiece (piece_graph d lines)) where
  abbrev js : List Point
  js = junctions_of d lines

  abbrev es : List Edge
  es = map (edge_between d (junctions_of d lines)) lines

  -- the two ends of a pass along its edge
  pass_of : (pass : Pass) (e : Edge) → edge_of lines es pass.line ≡ Some e → Passed d js pass e
  pass_of pass e at = passed d keeps law lines there js kept.ends pass e at

  first_of : (pass : Pass) (e : Edge) (p : Passed d js pass e) → first_point (needles_of_pass d pass) ≡ Some p.from
  first_of pass e p = ap first_point p.trail.is

  last_of : (pass : Pass) (e : Edge) (p : Passed d js pass e) → last_point (needles_of_pass d pass) ≡ Some p.to
  last_of pass e p = ap last_point p.trail.is ∙ ap (λ (q : Point). Some q) p.trail.last

  -- a walk over the graph is a thread over the lines
  leads_on : (walk : List Pass) (j to : ℕ) → walk_end_from lines es (Some j) walk ≡ Some to
      → All (λ (pass : Pass). Contains lines pass.line) walk × Leads d (slice_get js j) walk (slice_get js to)
  leads_on [] j to is = (All-nil (λ (pass : Pass). Contains lines pass.line), ap (slice_get js) (one_number j to is))
    where
      one_number : (m n : ℕ) → Some m ≡ Some n → m ≡ n
      one_number m n is = cc
  leads_on (pass ∷ rest) j to is = by_edge (edge_of lines es pass.line) refl is (λ m. λ goes. leads_on rest m to goes)
    where
      by_start : (e : Edge) → edge_of lines es pass.line ≡ Some e → (t : Bool) → (pass_start e pass.back == j) ≡ t
          → walk_end_from lines es (cond t (Some (pass_end e pass.back)) None) rest ≡ Some to
          → ((m : ℕ) → walk_end_from lines es (Some m) rest ≡ Some to
          → All (λ (pass : Pass). Contains lines pass.line) rest × Leads d (slice_get js m) rest (slice_get js to))
          → All (λ (pass : Pass). Contains lines pass.line) (pass ∷ rest) × Leads d (slice_get js j) (pass ∷ rest) (slice_get js to)
      by_start e at false test is more = absurd (lost lines es rest to is)
      by_start e at true test is more =
          let p = pass_of pass e at in
          let next = more (pass_end e pass.back) is in (
            All-cons (λ (pass : Pass). Contains lines pass.line) pass rest (found d js lines pass.line e at).held next.0,
            (
              first_of pass e p ∙ sym p.from_is ∙ ap (slice_get js) (same_number (pass_start e pass.back) j test),
              subst (λ (q : Option Point). Leads d q rest (slice_get js to)) (p.to_is ∙ sym (last_of pass e p)) next.1,
            ),
          )

      by_edge : (o : Option Edge) → edge_of lines es pass.line ≡ o
          → walk_end_from lines es (after_edge o pass.back j) rest ≡ Some to
          → ((m : ℕ) → walk_end_from lines es (Some m) rest ≡ Some to
          → All (λ (pass : Pass). Contains lines pass.line) rest × Leads d (slice_get js m) rest (slice_get js to))
          → All (λ (pass : Pass). Contains lines pass.line) (pass ∷ rest) × Leads d (slice_get js j) (pass ∷ rest) (slice_get js to)
      by_edge None at is more = absurd (lost lines es rest to is)
      by_edge (Some e) at is more = by_start e at (pass_start e pass.back == j) refl is more

  -- where a thread along the lines ends
  record Ending (walk : List Pass) (j : ℕ) (to : Option Point) : Type 0 where
    number : ℕ
    goes : walk_end_from lines es (Some j) walk ≡ Some number
    at : slice_get js number ≡ to

  -- a thread over the lines is a walk over the graph
  ends_at : (walk : List Pass) (j : ℕ) (to : Option Point) → All (λ (pass : Pass). Contains lines pass.line) walk
      → Leads d (slice_get js j) walk to → Ending walk j to
  ends_at [] j to drawn is = record { number = j; goes = refl; at = is }
  ends_at (pass ∷ rest) j to drawn is =
      let among = All-head (λ (pass : Pass). Contains lines pass.line) pass rest drawn in
      let e : Edge = edge_between d js pass.line in
      let at = edge_found (edge_between d js) lines pass.line among in
      let p = pass_of pass e at in
      let same : pass_start e pass.back ≡ j =
      number_of_point js kept.different (pass_start e pass.back) j p.from p.from_is (sym is.0 ∙ first_of pass e p) in
      let next = ends_at rest (pass_end e pass.back) to (All-tail (λ (pass : Pass). Contains lines pass.line) pass rest drawn)
      (subst (λ (q : Option Point). Leads d q rest to) (last_of pass e p ∙ sym p.to_is) is.1) in
      let test : (pass_start e pass.back == j) ≡ true = number_found (pass_start e pass.back) j same in
      record { number = next.number; goes = rw (at, test) next.goes; at = next.at }

  -- a thread from one junction to another
  closes : (walk : List Pass) (a b : ℕ) (q : Point) (from to : Option Point) → All (λ (pass : Pass). Contains lines pass.line) walk
      → Leads d from walk to → from ≡ slice_get js a → to ≡ Some q → slice_get js b ≡ Some q
      → are_same_junction (walk_end_from lines es (Some a) walk) (Some b) ≡ true
  closes walk a b q from to drawn leads starts is at =
      let e = ends_at walk a to drawn (subst (λ (o : Option Point). Leads d o walk to) starts leads) in
      rw e.goes (number_found e.number b (number_of_point js kept.different e.number b q (e.at ∙ is) at))

  reached : (x : Option ℕ) (b : ℕ) → are_same_junction x (Some b) ≡ true → x ≡ Some b
  reached None b is = absurd (cc)
  reached (Some a) b is = ap (λ (n : ℕ). Some n) (same_number a b is)

  -- a fitting walk runs between the given points
  fit_runs : (walk : List Pass) (start end first : Option ℕ) (s e : Option Point) → IsAt js start s → IsAt js end e
      → are_same_junction (walk_end_from lines es (option_or (option_or start end) first) walk) (option_or (option_or end start) first)
      ≡ true
      → Runs d lines walk s e
  fit_runs walk (Some a) (Some b) first (Some p) (Some q) at_a at_b is =
      let run = leads_on walk a b (reached (walk_end_from lines es (Some a) walk) b is) in
      record { from = slice_get js a; to = slice_get js b; drawn = run.0; leads = run.1; ends = (at_a, at_b) }
  fit_runs walk (Some a) None first (Some p) None at_a at_b is =
      let run = leads_on walk a a (reached (walk_end_from lines es (Some a) walk) a is) in
      record { from = slice_get js a; to = slice_get js a; drawn = run.0; leads = run.1; ends = (at_a, at_a) }
  fit_runs walk None (Some b) first None (Some q) at_a at_b is =
      let run = leads_on walk b b (reached (walk_end_from lines es (Some b) walk) b is) in
      record { from = slice_get js b; to = slice_get js b; drawn = run.0; leads = run.1; ends = (at_b, at_b) }
  fit_runs walk None None (Some c) None None at_a at_b is =
      let run = leads_on walk c c (reached (walk_end_from lines es (Some c) walk) c is) in
      record { from = slice_get js c; to = slice_get js c; drawn = run.0; leads = run.1; ends = refl }
  fit_runs walk None None None None None at_a at_b is = absurd (nowhere (walk_end_from lines es None walk) is)
    where
      nowhere : (x : Option ℕ) → are_same_junction x None ≡ true → ⊥
      nowhere None is = cc
      nowhere (Some a) is = cc
  fit_runs walk (Some a) end first None e at_a at_b is = absurd at_a
  fit_runs walk None end first (Some p) e at_a at_b is = absurd at_a
  fit_runs walk (Some a) (Some b) first (Some p) None at_a at_b is = absurd at_b
  fit_runs walk (Some a) None first (Some p) (Some q) at_a at_b is = absurd at_b
  fit_runs walk None (Some b) first None None at_a at_b is = absurd at_b
  fit_runs walk None None first None (Some q) at_a at_b is = absurd at_b

  -- a closed thread returns to where its first pass starts
  closed : (walk : List Pass) → 1 ≤ length walk → (from to : Option Point) → All (λ (pass : Pass). Contains lines pass.line) walk
      → Leads d from walk to → from ≡ to
      → are_same_junction (walk_end_from lines es (walk_start lines es walk) walk) (walk_start lines es walk) ≡ true
  closed [] some from to drawn leads is = absurd (omega (arith, some))
  closed (pass ∷ rest) some from to drawn leads is =
      let at = edge_found (edge_between d js) lines pass.line (All-head (λ (pass : Pass). Contains lines pass.line) pass rest drawn) in
      let e : Edge = edge_between d js pass.line in
      let p = pass_of pass e at in
      let starts : from ≡ slice_get js (pass_start e pass.back) = sym leads.0 ∙ first_of pass e p ∙ sym p.from_is in
      let back = closes (pass ∷ rest) (pass_start e pass.back) (pass_start e pass.back) p.from from to drawn leads starts
      (sym is ∙ starts ∙ p.from_is) p.from_is in
      subst (λ (o : Option ℕ). are_same_junction (walk_end_from lines es o (pass ∷ rest)) o ≡ true)
      (sym (starting (edge_of lines es pass.line) e at)) back
    where
      starting : (o : Option Edge) (e : Edge) → o ≡ Some e → pass_start_on o pass.back ≡ Some (pass_start e pass.back)
      starting o e is = rw is refl

  -- a thread that keeps the given ends fits
  runs_fit : (walk : List Pass) → 1 ≤ length walk → (start end : Option ℕ) (s e : Option Point) → IsAt js start s → IsAt js end e
      → (from to : Option Point) → All (λ (pass : Pass). Contains lines pass.line) walk → Leads d from walk to → KeepsGivenEnds s e from to
      → are_same_junction (walk_end_from lines es (option_or (option_or start end) (walk_start lines es walk)) walk)
      (option_or (option_or end start) (walk_start lines es walk)) ≡ true
  runs_fit walk some (Some a) (Some b) (Some p) (Some q) at_a at_b from to drawn leads ends =
      closes walk a b q from to drawn leads (ends.0 ∙ sym at_a) ends.1 at_b
  runs_fit walk some (Some a) None (Some p) None at_a at_b from to drawn leads ends =
      closes walk a a p from to drawn leads (ends.0 ∙ sym at_a) ends.1 at_a
  runs_fit walk some None (Some b) None (Some q) at_a at_b from to drawn leads ends =
      closes walk b b q from to drawn leads (ends.0 ∙ sym at_b) ends.1 at_b
  runs_fit walk some None None None None at_a at_b from to drawn leads ends = closed walk some from to drawn leads ends
  runs_fit walk some (Some a) end None e at_a at_b from to drawn leads ends = absurd at_a
  runs_fit walk some None end (Some p) e at_a at_b from to drawn leads ends = absurd at_a
  runs_fit walk some (Some a) (Some b) (Some p) None at_a at_b from to drawn leads ends = absurd at_b
  runs_fit walk some (Some a) None (Some p) (Some q) at_a at_b from to drawn leads ends = absurd at_b
  runs_fit walk some None (Some b) None None at_a at_b from to drawn leads ends = absurd at_b
  runs_fit walk some None None None (Some q) at_a at_b from to drawn leads ends = absurd at_b

  -- a thread that covers a line has a pass
  some_pass : (some : List ℕ) (walk : List Pass) → 1 ≤ length some → All (Contains (map (λ (pass : Pass). pass.line) walk)) some
      → 1 ≤ length walk
  some_pass [] walk few all = absurd (omega (arith, few))
  some_pass (n ∷ some) [] few all =
      let none = All-head (Contains (map (λ (pass : Pass). pass.line) [])) n some all in absurd (omega (arith, none.1))
  some_pass (n ∷ some) (pass ∷ rest) few all = omega arith

  fit_is_thread : (walk : List Pass) → is_fitting_walk (piece_graph d lines) walk ≡ true → IsThreadOver d lines walk
  fit_is_thread walk fit =
      let parts = and_parts (is_walk_start_to_end (piece_graph d lines) walk) (covers lines walk) fit in
      let run = fit_runs walk (piece_graph d lines).start (piece_graph d lines).end (walk_start lines es walk)
      (given_point d lines d.starts) (given_point d lines d.ends) (given_at d lines d.starts) (given_at d lines d.ends) parts.0 in
      record {
        from = run.from;
        to = run.to;
        drawn = run.drawn;
        covered = covered_by lines walk parts.1;
        leads = run.leads;
        ends = run.ends;
      }

  thread_fits : (walk : List Pass) → IsThreadOver d lines walk → is_fitting_walk (piece_graph d lines) walk ≡ true
  thread_fits walk thread =
      let some = some_pass lines walk kept.some thread.covered in
      let goes : is_walk_start_to_end (piece_graph d lines) walk ≡ true =
      runs_fit walk some (piece_graph d lines).start (piece_graph d lines).end (given_point d lines d.starts) (given_point d lines d.ends)
      (given_at d lines d.starts) (given_at d lines d.ends) thread.from thread.to thread.drawn thread.leads thread.ends in
      rw (goes, covers_all lines walk thread.covered) refl

pub fitting_are_threads : ((d : DrawingValue) → NeedlesLeadAlong d) → FittingWalksAreThreads
fitting_are_threads law d lines walk keeps there kept =
    (λ fit. fit_is_thread d keeps (law d) lines there kept walk fit, λ thread. thread_fits d keeps (law d) lines there kept walk thread)
