-- Walks over a piece of a drawing as needle points.
use Rattle.std.proofs.Common.{◌≡◌, ◌≢◌, ℕ, suc, ◌+◌, ◌<◌, ◌≤◌, ◌==◌, Bool, true, false, cond, ◌&&◌, nat_lt, List, [], ◌∷◌, ◌++◌, length, map, drop, reverse, slice_get, Option, Some, None, All, Contains, arith, refl, sym, ◌∙◌, ap, subst}
use Rattle.std.proofs.lemmas.List.Recursion.{is_position_or_len}
use Rattle.line_graph.proofs.Names.{nat_tests, and_parts, length-append, flat_map-cons, All-append, All-cons, All-contains, All-head, All-nil, All-tail, flat_map, Point, is_same_point, IsNeedlePoint, AreCloseAfter, Edge, Pass, DrawingValue, KeepsDrawingLimits, first_point, last_point, points_of, ends_below, NeedlesLeadAlong, edge_between, junctions_of, junction_number, piece_graph, after_edge, edge_cost, covers, edge_of, pass_end, is_walk_start_to_end, pass_start, walk_end_from, AreNear, FittingWalksAreSewable, IsSewable, needles_of_pass, needles_of_walk, same_is, length-reverse, AreNeedlesOf, needles_of_line, required_start, required_end, edge_value, pass_sum, close_on}
use Rattle.line_graph.proofs.TrailLemmas.{Trail, trail_back, trail_of}
use Rattle.line_graph.proofs.CallerLemmas.{goes_from, lost}

-- the position of a point in a list
abbrev place_of : Point → List Point → ℕ
place_of x [] = 0
place_of x (y ∷ ys) = cond (is_same_point x y) 0 (suc (place_of x ys))

place_holds : (x : Point) (ys : List Point) → place_of x ys < length ys → slice_get ys (place_of x ys) ≡ Some x
place_holds x [] below = absurd (omega arith)
place_holds x (y ∷ ys) below = grind (arith, nat_tests, place_holds x ys, same_is x y)

-- a junction's number leads to its point
pub junction_at : (js : List Point) (o : Option Point) → junction_number js o < length js → slice_get js (junction_number js o) ≡ o
junction_at js None below = absurd (omega arith)
junction_at js (Some x) below = grind (arith, nat_tests, is_position_or_len (place_of x) (is_same_point x) refl, place_holds x js)

-- an edge that is found is that of its line
pub record IsFound (d : DrawingValue) (js : List Point) (lines : List ℕ) (line : ℕ) (e : Edge) : Type 0 where
  pub is : e ≡ edge_between d js line
  pub held : Contains lines line

pub found : (d : DrawingValue) (js : List Point) (lines : List ℕ) (line : ℕ) (e : Edge)
    → edge_of lines (map (edge_between d js) lines) line ≡ Some e → IsFound d js lines line e
found d js [] line e at = absurd (cc)
found d js (n ∷ lines) line e at = by_test (line == n) refl at (λ h. found d js lines line e h)
  where
    same : (m n : ℕ) → (m == n) ≡ true → m ≡ n
    same m n is = grind (arith, nat_tests)

    some_same : (x y : Edge) → Some x ≡ Some y → y ≡ x
    some_same x y is = cc

    by_test : (t : Bool) → (line == n) ≡ t → cond t (Some (edge_between d js n)) (edge_of lines (map (edge_between d js) lines) line)
        ≡ Some e
        → (edge_of lines (map (edge_between d js) lines) line ≡ Some e → IsFound d js lines line e) → IsFound d js (n ∷ lines) line e
    by_test true is at rest = record {
      is = some_same (edge_between d js n) e at ∙ ap (edge_between d js) (sym (same line n is));
      held = (0, omega arith, sym (same line n is));
    }
    by_test false is at rest =
        let r = rest at in
        record { is = r.is; held = (suc r.held.0, omega (arith, r.held.1), r.held.2) }

ends_at : (n : ℕ) (lines : List ℕ) (es : List Edge) (line : ℕ) (e : Edge) → ends_below n es ≡ true → edge_of lines es line ≡ Some e
    → (e.a < n) × (e.b < n)
ends_at n [] es line e below is = absurd (cc)
ends_at n (m ∷ lines) [] line e below is = absurd (cc)
ends_at n (m ∷ lines) (x ∷ es) line e below is =
    let parts = and_parts (nat_lt x.a n && nat_lt x.b n) (ends_below n es) below in
    by_test (line == m) is (and_parts (nat_lt x.a n) (nat_lt x.b n) parts.0) (λ h. ends_at n lines es line e parts.1 h)
  where
    less : (m n : ℕ) → nat_lt m n ≡ true → m < n
    less m n is = grind (arith, nat_tests)

    by_test : (t : Bool) → cond t (Some x) (edge_of lines es line) ≡ Some e → (nat_lt x.a n ≡ true) × (nat_lt x.b n ≡ true)
        → (edge_of lines es line ≡ Some e → (e.a < n) × (e.b < n)) → (e.a < n) × (e.b < n)
    by_test true is ends rest =
        let same : x ≡ e = cc in
        subst (λ (y : Edge). (y.a < n) × (y.b < n)) same (less x.a n ends.0, less x.b n ends.1)
    by_test false is ends rest = rest is

-- the needle points after the first of each pass
abbrev later : DrawingValue → List Pass → List Point
later d walk = flat_map (λ (next : Pass). drop 1 (needles_of_pass d next)) walk

-- what a walk is as needles, from a junction at a point on
record Sewn (d : DrawingValue) (lines : List ℕ) (js : List Point) (at : Point) (walk : List Pass) : Type 0 where
  held : All (λ (pass : Pass). Contains lines pass.line) walk
  close : AreCloseAfter d.step at (later d walk)
  in_range : All IsNeedlePoint (later d walk)
  count : length (later d walk) ≡ pass_sum lines (map (edge_between d js) lines) edge_cost walk

-- a pass as needles
pub record Passed (d : DrawingValue) (js : List Point) (pass : Pass) (e : Edge) : Type 0 where
  pub from : Point
  pub to : Point
  pub from_is : slice_get js (pass_start e pass.back) ≡ Some from
  pub to_is : slice_get js (pass_end e pass.back) ≡ Some to
  pub trail : Trail d.step from to (needles_of_pass d pass)
  pub count : length (needles_of_pass d pass) ≡ e.cost + 1

-- a line's needles, forwards or back
record Way (step : ℕ) (js : List Point) (e : Edge) (needles : List Point) (back : Bool) : Type 0 where
  from : Point
  to : Point
  from_is : slice_get js (pass_start e back) ≡ Some from
  to_is : slice_get js (pass_end e back) ≡ Some to
  trail : Trail step from to (cond back (reverse needles) needles)
  count : length (cond back (reverse needles) needles) ≡ e.cost + 1

way : (step : ℕ) (js : List Point) (e : Edge) (needles : List Point) (a b : Point) → slice_get js e.a ≡ Some a → slice_get js e.b ≡ Some b
    → Trail step a b needles → length needles ≡ e.cost + 1 → (back : Bool) → Way step js e needles back
way step js e needles a b at_a at_b trail count true = grind (arith, nat_tests, trail_back step a b needles trail, length-reverse needles)
way step js e needles a b at_a at_b trail count false = grind (arith, nat_tests)

pub passed : (d : DrawingValue) → KeepsDrawingLimits d → NeedlesLeadAlong d → (lines : List ℕ) → All (λ line. line < length d.lines) lines
    → (js : List Point) → ends_below (length js) (map (edge_between d js) lines) ≡ true
    → (pass : Pass) (e : Edge) → edge_of lines (map (edge_between d js) lines) pass.line ≡ Some e → Passed d js pass e
passed d keeps law lines there js ends pass e at =
    let f = found d js lines pass.line e at in
    let below = ends_at (length js) lines (map (edge_between d js) lines) pass.line e ends at in
    let a_below = subst (λ (x : Edge). x.a < length js) f.is below.0 in
    let b_below = subst (λ (x : Edge). x.b < length js) f.is below.1 in
    let at_a = junction_at js (first_point (points_of d pass.line)) a_below in
    let at_b = junction_at js (last_point (points_of d pass.line)) b_below in
    let needles = law pass.line keeps (All-contains (λ line. line < length d.lines) lines pass.line there f.held) in
    by_ends f.is needles (first_point (points_of d pass.line)) refl at_a a_below (last_point (points_of d pass.line)) refl at_b b_below
  where
    made : (w : Way d.step js e (needles_of_line d pass.line) pass.back) → Passed d js pass e
    made w = record { from = w.from; to = w.to; from_is = w.from_is; to_is = w.to_is; trail = w.trail; count = w.count }

    nowhere : (n : ℕ) → n < n → ⊥
    nowhere n h = omega arith

    by_ends : e ≡ edge_between d js pass.line → AreNeedlesOf d pass.line (needles_of_line d pass.line)
        → (x : Option Point) → first_point (points_of d pass.line) ≡ x → slice_get js (junction_number js x) ≡ x
        → junction_number js x < length js
        → (y : Option Point) → last_point (points_of d pass.line) ≡ y → slice_get js (junction_number js y) ≡ y
        → junction_number js y < length js
        → Passed d js pass e
    by_ends is needles None first at_a a_below y last at_b b_below = absurd (nowhere (length js) a_below)
    by_ends is needles (Some a) first at_a a_below None last at_b b_below = absurd (nowhere (length js) b_below)
    by_ends is needles (Some a) first at_a a_below (Some b) last at_b b_below =
        made (way d.step js e (needles_of_line d pass.line) a b
        (subst (λ (x : Edge). slice_get js x.a ≡ Some a) (sym is) (ap (λ (o : Option Point). slice_get js (junction_number js o)) first
        ∙ at_a))
        (subst (λ (x : Edge). slice_get js x.b ≡ Some b) (sym is) (ap (λ (o : Option Point). slice_get js (junction_number js o)) last
        ∙ at_b))
        (trail_of d.step a b (needles_of_line d pass.line) (needles.along.first ∙ first)
        (needles.along.last ∙ last) needles.along.close needles.along.in_range)
        (needles.count ∙ ap (λ (x : Edge). x.cost + 1) (sym is)) pass.back)

-- the needle points after the first are the rest of a trail
behind : (step : ℕ) (from to : Point) (points : List Point) (t : Trail step from to points) → drop 1 points ≡ t.rest
behind step from to points t = ap (λ (ps : List Point). drop 1 ps) t.is

-- one pass, and those after it
sewn_more : (d : DrawingValue) (lines : List ℕ) (js : List Point) (pass : Pass) (rest : List Pass) (e : Edge)
    → edge_of lines (map (edge_between d js) lines) pass.line ≡ Some e → Contains lines pass.line → (p : Passed d js pass e)
    → Sewn d lines js p.to rest → Sewn d lines js p.from (pass ∷ rest)
sewn_more d lines js pass rest e at held p more = record {
  held = All-cons (λ (x : Pass). Contains lines x.line) pass rest held more.held;
  close = subst (λ (ps : List Point). AreCloseAfter d.step p.from ps) (sym is)
      (close_on d.step p.from p.trail.rest (later d rest) p.trail.close
      (subst (λ (q : Point). AreCloseAfter d.step q (later d rest)) (sym p.trail.last) more.close));
  in_range = subst (λ (ps : List Point). All IsNeedlePoint ps) (sym is)
      (All-append IsNeedlePoint p.trail.rest (later d rest) (All-tail IsNeedlePoint p.from p.trail.rest p.trail.in_range) more.in_range);
  count = counted (length (later d (pass ∷ rest))) (length p.trail.rest) (length (later d rest)) (length (needles_of_pass d pass)) e.cost
      (pass_sum lines (map (edge_between d js) lines) edge_cost rest)
      (edge_value edge_cost (edge_of lines (map (edge_between d js) lines) pass.line))
      (ap (λ (ps : List Point). length ps) is ∙ length-append p.trail.rest (later d rest))
      (ap (λ (ps : List Point). length ps) p.trail.is) p.count more.count
      (ap (edge_value edge_cost) at);
}
  where
    is : later d (pass ∷ rest) ≡ p.trail.rest ++ later d rest
    is = grind (arith, nat_tests, flat_map-cons, pass, rest)

    counted : (n r l k c s o : ℕ) → n ≡ r + l → k ≡ suc r → k ≡ c + 1 → l ≡ s → o ≡ c → n ≡ o + s
    counted n r l k c s o a b f g h = omega arith

-- a walk from a junction at a point on
sewn : (d : DrawingValue) → KeepsDrawingLimits d → NeedlesLeadAlong d → (lines : List ℕ) → All (λ line. line < length d.lines) lines
    → (js : List Point) → ends_below (length js) (map (edge_between d js) lines) ≡ true → (walk : List Pass) (j to : ℕ) (at : Point)
    → slice_get js j ≡ Some at → walk_end_from lines (map (edge_between d js) lines) (Some j) walk ≡ Some to → Sewn d lines js at walk
sewn d keeps law lines there js ends [] j to at here is = grind (arith, nat_tests, All-nil)
sewn d keeps law lines there js ends (pass ∷ rest) j to at here is =
    by_edge (edge_of lines (map (edge_between d js) lines) pass.line) refl is
    (λ m. λ q. λ there_q. λ on. sewn d keeps law lines there js ends rest m to q there_q on)
  where
    same : (m n : ℕ) → (m == n) ≡ true → m ≡ n
    same m n is = grind (arith, nat_tests)

    one_point : (p q : Point) → Some p ≡ Some q → p ≡ q
    one_point p q is = cc

    by_start : (e : Edge) → edge_of lines (map (edge_between d js) lines) pass.line ≡ Some e → (t : Bool)
        → (pass_start e pass.back == j) ≡ t
        → walk_end_from lines (map (edge_between d js) lines) (cond t (Some (pass_end e pass.back)) None) rest ≡ Some to
        → ((m : ℕ) (q : Point) → slice_get js m ≡ Some q → walk_end_from lines (map (edge_between d js) lines) (Some m) rest ≡ Some to
        → Sewn d lines js q rest)
        → Sewn d lines js at (pass ∷ rest)
    by_start e found_e false test is more = absurd (lost lines (map (edge_between d js) lines) rest to is)
    by_start e found_e true test is more =
        let p = passed d keeps law lines there js ends pass e found_e in
        let from : p.from ≡ at = one_point p.from at (sym p.from_is ∙ ap (slice_get js) (same (pass_start e pass.back) j test) ∙ here) in
        subst (λ (q : Point). Sewn d lines js q (pass ∷ rest)) from
        (sewn_more d lines js pass rest e found_e (found d js lines pass.line e found_e).held p
        (more (pass_end e pass.back) p.to p.to_is is))

    by_edge : (o : Option Edge) → edge_of lines (map (edge_between d js) lines) pass.line ≡ o
        → walk_end_from lines (map (edge_between d js) lines) (after_edge o pass.back j) rest ≡ Some to
        → ((m : ℕ) (q : Point) → slice_get js m ≡ Some q → walk_end_from lines (map (edge_between d js) lines) (Some m) rest ≡ Some to
        → Sewn d lines js q rest)
        → Sewn d lines js at (pass ∷ rest)
    by_edge None found_e is more = absurd (lost lines (map (edge_between d js) lines) rest to is)
    by_edge (Some e) found_e is more = by_start e found_e (pass_start e pass.back == j) refl is more

-- a walk with a pass that leads somewhere
record Leading (d : DrawingValue) (lines : List ℕ) (js : List Point) (walk : List Pass) : Type 0 where
  pass : Pass
  rest : List Pass
  is : walk ≡ pass ∷ rest
  e : Edge
  at : edge_of lines (map (edge_between d js) lines) pass.line ≡ Some e
  to : ℕ
  goes : walk_end_from lines (map (edge_between d js) lines) (Some (pass_end e pass.back)) rest ≡ Some to

leading : (d : DrawingValue) (lines : List ℕ) (js : List Point) (begin : Option ℕ) (walk : List Pass) (to : ℕ) → 1 ≤ length walk
    → walk_end_from lines (map (edge_between d js) lines) begin walk ≡ Some to → Leading d lines js walk
leading d lines js begin [] to some is = absurd (omega arith)
leading d lines js None (p ∷ ps) to some is = absurd (lost lines (map (edge_between d js) lines) ps to is)
leading d lines js (Some j) (p ∷ ps) to some is = by_edge (edge_of lines (map (edge_between d js) lines) p.line) refl is
  where
    by_start : (e : Edge) → edge_of lines (map (edge_between d js) lines) p.line ≡ Some e → (t : Bool)
        → walk_end_from lines (map (edge_between d js) lines) (cond t (Some (pass_end e p.back)) None) ps ≡ Some to
        → Leading d lines js (p ∷ ps)
    by_start e at false is = absurd (lost lines (map (edge_between d js) lines) ps to is)
    by_start e at true is = record { pass = p; rest = ps; is = refl; e = e; at = at; to = to; goes = is }

    by_edge : (o : Option Edge) → edge_of lines (map (edge_between d js) lines) p.line ≡ o
        → walk_end_from lines (map (edge_between d js) lines) (after_edge o p.back j) ps ≡ Some to → Leading d lines js (p ∷ ps)
    by_edge None at is = absurd (lost lines (map (edge_between d js) lines) ps to is)
    by_edge (Some e) at is = by_start e at (pass_start e p.back == j) is

-- a walk that covers a line has a pass
covers_some : (lines : List ℕ) (walk : List Pass) → 1 ≤ length lines → covers lines walk ≡ true → 1 ≤ length walk
covers_some [] walk some all = absurd (omega arith)
covers_some (n ∷ lines) [] some all = absurd (cc)
covers_some (n ∷ lines) (p ∷ walk) some all = omega arith

-- the needle points of a walk are its first one, and those after it
needles_are : (d : DrawingValue) (js : List Point) (pass : Pass) (rest : List Pass) (e : Edge) (p : Passed d js pass e)
    → needles_of_walk d (pass ∷ rest) ≡ p.from ∷ later d (pass ∷ rest)
needles_are d js pass rest e p = grind (arith, nat_tests, flat_map-cons (λ (next : Pass). drop 1 (needles_of_pass d next)) pass rest)

sewable : (d : DrawingValue) (lines : List ℕ) (pass : Pass) (rest : List Pass) (e : Edge) (p : Passed d (junctions_of d lines) pass e)
    → Sewn d lines (junctions_of d lines) p.from (pass ∷ rest) → IsSewable d lines (pass ∷ rest)
sewable d lines pass rest e p s =
    let is = needles_are d (junctions_of d lines) pass rest e p in
    record {
      there = s.held;
      penetrations = ap (λ (ps : List Point). length ps) is ∙ counted (length (later d (pass ∷ rest))) _ s.count;
      near = subst (λ (ps : List Point). AreNear d.step ps) (sym is) (record {
        some = some p.from (later d (pass ∷ rest));
        in_range = All-cons IsNeedlePoint p.from (later d (pass ∷ rest))
            (All-head IsNeedlePoint p.from p.trail.rest p.trail.in_range) s.in_range;
        close = s.close;
      });
    }
  where
    counted : (n k : ℕ) → n ≡ k → suc n ≡ k + 1
    counted n k is = omega arith

    some : (q : Point) (ps : List Point) → q ∷ ps ≢ []
    some q ps is = cc

pub fitting_walks_are_sewable : ((d : DrawingValue) → NeedlesLeadAlong d) → FittingWalksAreSewable
fitting_walks_are_sewable law d lines walk keeps there kept fit =
    let parts = and_parts (is_walk_start_to_end (piece_graph d lines) walk) (covers lines walk) fit in
    let some = covers_some lines walk kept.some parts.1 in
    let g = goes_from (walk_end_from lines (map (edge_between d (junctions_of d lines)) lines) (required_start (piece_graph d lines) walk)
    walk)
    (required_end (piece_graph d lines) walk) parts.0 in
    led (leading d lines (junctions_of d lines) (required_start (piece_graph d lines) walk) walk g.0 some g.1)
  where
    led : Leading d lines (junctions_of d lines) walk → IsSewable d lines walk
    led l =
        let p = passed d keeps (law d) lines there (junctions_of d lines) kept.ends l.pass l.e l.at in
        let s = sewn_more d lines (junctions_of d lines) l.pass l.rest l.e l.at
        (found d (junctions_of d lines) lines l.pass.line l.e l.at).held p
        (sewn d keeps (law d) lines there (junctions_of d lines) kept.ends l.rest (pass_end l.e l.pass.back) l.to p.to p.to_is l.goes) in
        subst (λ (w : List Pass). IsSewable d lines w) (sym l.is) (sewable d lines l.pass l.rest l.e p s)
