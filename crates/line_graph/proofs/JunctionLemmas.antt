-- Numbers of junctions, in the order in which lines name them.
use Rattle.std.proofs.Common.{◌≡◌, ◌<◌, ◌≤◌, ℕ, ◌+◌, ◌*◌, Bool, true, false, List, [], ◌∷◌, ◌++◌, length, map, drop, get_or, Some, arith, refl, sym, ◌∙◌, ap, inl, inr}
use Rattle.line_graph.proofs.Names.{nat_tests, or_cases, or_left, or_right, append_assoc, length-append, flat_map-cons, flat_map, list_any, position_or_len, Point, is_same_point, Edge, DrawingValue, first_point, last_point, points_of, endpoints, edge_between, junctions_of, junction_number, with_points, with_point, cost_of_line, same_found, at_drop_more, AddsEdge}

-- a place that is found stays where more follow
place_before : (test : Point → Bool) (xs ys : List Point) → list_any test xs ≡ true
    → position_or_len test (xs ++ ys) ≡ position_or_len test xs
place_before test [] ys found = absurd (cc)
place_before test (x ∷ xs) ys found = grind (arith, nat_tests, place_before test xs ys)

-- a point that is not found gets the next number
place_behind : (test : Point → Bool) (xs : List Point) (y : Point) → list_any test xs ≡ false → test y ≡ true
    → position_or_len test (xs ++ y ∷ []) ≡ position_or_len test xs
place_behind test [] y none here = rw here refl
place_behind test (x ∷ xs) y none here = grind (arith, nat_tests, place_behind test xs y)

-- what is found is found where more follow
any_before : (test : Point → Bool) (xs ys : List Point) → list_any test xs ≡ true → list_any test (xs ++ ys) ≡ true
any_before test [] ys found = absurd (cc)
any_before test (x ∷ xs) ys found = elim (or_cases (test x) (list_any test xs) found) [
  | inl here ↦ or_left (test x) (list_any test (xs ++ ys)) here
  | inr later ↦ or_right (test x) (list_any test (xs ++ ys)) (any_before test xs ys later)
]

-- the point after the others is found
any_behind : (test : Point → Bool) (xs : List Point) (y : Point) → test y ≡ true → list_any test (xs ++ y ∷ []) ≡ true
any_behind test [] y here = rw here refl
any_behind test (x ∷ xs) y here = or_right (test x) (list_any test (xs ++ y ∷ [])) (any_behind test xs y here)

-- a point that is put is found
pub put_found : (points : List Point) (p : Point) → list_any (is_same_point p) (with_point points p) ≡ true
put_found points p = grind (arith, nat_tests, any_behind (is_same_point p) points p (same_found p p refl), same_found p p refl)

-- what is found among points is found among more
pub put_keeps : (test : Point → Bool) (points : List Point) (p : Point) → list_any test points ≡ true
    → list_any test (with_point points p) ≡ true
put_keeps test points p found = grind (arith, nat_tests, any_before test points (p ∷ []) found)

-- and keeps its number
put_keeps_number : (test : Point → Bool) (points : List Point) (p : Point) → list_any test points ≡ true
    → position_or_len test (with_point points p) ≡ position_or_len test points
put_keeps_number test points p found = grind (arith, nat_tests, place_before test points (p ∷ []) found)

-- so a number stays whatever points follow
pub number_stays : (test : Point → Bool) (points more : List Point) → list_any test points ≡ true
    → position_or_len test (with_points points more) ≡ position_or_len test points
number_stays test points [] found = refl
number_stays test points (p ∷ more) found =
    number_stays test (with_point points p) more (put_keeps test points p found) ∙ put_keeps_number test points p found

-- and it is found whatever points follow
pub seen_keeps : (test : Point → Bool) (points more : List Point) → list_any test points ≡ true
    → list_any test (with_points points more) ≡ true
seen_keeps test points [] found = found
seen_keeps test points (p ∷ more) found = seen_keeps test (with_point points p) more (put_keeps test points p found)

-- points that follow are seen one part after another
pub seen_on : (points first then : List Point) → with_points points (first ++ then) ≡ with_points (with_points points first) then
seen_on points [] then = refl
seen_on points (p ∷ first) then = seen_on (with_point points p) first then

-- one more point is one more junction at most
put_few : (points : List Point) (p : Point) → length (with_point points p) ≤ length points + 1
put_few points p = grind (arith, nat_tests, length-append points (p ∷ []))

-- the ends of a line by its first point and its last
pub ends_by : (points : List Point) (p q : Point) → first_point points ≡ Some p → last_point points ≡ Some q → endpoints points ≡ p ∷ q ∷ []
ends_by [] p q first last = absurd (cc)
ends_by (x ∷ rest) p q first last = grind (arith, nat_tests)

-- the edge of a line whose ends were numbered
pub edge_added : (d : DrawingValue) (line : ℕ) (p q : Point) (k0 k1 k2 : List Point) (a b cost : ℕ)
    → first_point (points_of d line) ≡ Some p → last_point (points_of d line) ≡ Some q → a ≡ position_or_len (is_same_point p) k0
    → k1 ≡ with_point k0 p → b ≡ position_or_len (is_same_point q) k1 → k2 ≡ with_point k1 q → cost ≡ cost_of_line d line
    → AddsEdge d line k0 k2 (record { a = a; b = b; cost = cost })
edge_added d line p q k0 k1 k2 a b cost first last a_is k1_is b_is k2_is cost_is = record {
  seen = k2_is ∙ ap (λ (ks : List Point). with_point ks q) k1_is ∙ ap (with_points k0) (sym (ends_by (points_of d line) p q first last));
  few = omega (arith, put_few k0 p, put_few k1 q, ap length k1_is, ap length k2_is);
  is = λ more. λ i. record { a = at_a more i; b = at_b more i; cost = cost_is i };
}
  where
    here_p : list_any (is_same_point p) k1 ≡ true
    here_p = ap (list_any (is_same_point p)) k1_is ∙ put_found k0 p

    here_q : list_any (is_same_point q) k2 ≡ true
    here_q = ap (list_any (is_same_point q)) k2_is ∙ put_found k1 q

    at_a : (more : List Point) → a ≡ junction_number (with_points k2 more) (first_point (points_of d line))
    at_a more = grind (arith, nat_tests, put_keeps_number, here_p, place_behind, same_found, put_keeps, number_stays)

    at_b : (more : List Point) → b ≡ junction_number (with_points k2 more) (last_point (points_of d line))
    at_b more = grind (arith, nat_tests, place_behind, same_found, number_stays, here_q)

-- edges so far, and those of the lines that are left
pub record AreEdges (d : DrawingValue) (lines : List ℕ) (at : ℕ) (junctions : List Point) (edges : List Edge) : Type 0 where
  pub seen : with_points junctions (flat_map (λ line. endpoints (points_of d line)) (drop at lines)) ≡ junctions_of d lines
  pub built : edges ++ map (edge_between d (junctions_of d lines)) (drop at lines) ≡ map (edge_between d (junctions_of d lines)) lines
  pub few : length junctions ≤ 2 * at

-- the edge of one more line
pub next_edge : (d : DrawingValue) (lines : List ℕ) (at x : ℕ) (old new : List Point) (edges : List Edge) (edge : Edge) → at < length lines
    → AreEdges d lines at old edges → AddsEdge d (get_or lines at x) old new edge → AreEdges d lines (at + 1) new (edges ++ edge ∷ [])
next_edge d lines at x old new edges edge below so_far adds =
    let ends : ℕ → List Point = λ line. endpoints (points_of d line) in
    let line : ℕ = get_or lines at x in
    let js : List Point = junctions_of d lines in
    let rest : List ℕ = drop (at + 1) lines in
    let seen : with_points new (flat_map ends rest) ≡ js =
    ap (λ (ks : List Point). with_points ks (flat_map ends rest)) adds.seen ∙ sym (seen_on old (ends line) (flat_map ends rest))
    ∙ sym (ap (with_points old) (flat_map-cons ends line rest))
    ∙ sym (at_drop_more (λ (ls : List ℕ). with_points old (flat_map ends ls)) lines at x below) ∙ so_far.seen in
    let is : edge ≡ edge_between d js line = adds.is (flat_map ends rest) ∙ ap (λ (ks : List Point). edge_between d ks line) seen in
    record {
      seen = seen;
      built = append_assoc edges (edge ∷ []) (map (edge_between d js) rest)
          ∙ ap (λ (e : Edge). edges ++ e ∷ map (edge_between d js) rest) is
          ∙ sym (at_drop_more (λ (ls : List ℕ). edges ++ map (edge_between d js) ls) lines at x below) ∙ so_far.built;
      few = omega (arith, adds.few, so_far.few);
    }
