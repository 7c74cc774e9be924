-- The junctions of lines are the ends of these lines, each once.
use Rattle.std.proofs.Common.{◌≡◌, ◌<◌, ◌≤◌, ◌⊎◌, inl, inr, ℕ, Bool, true, false, cond, List, [], ◌∷◌, ◌++◌, length, map, get_or, Option, Some, All, AllPairs, Contains, arith, refl, sym, ◌∙◌, ap, subst}
use Rattle.line_graph.proofs.Names.{nat_tests, flat_map-cons, All-append, All-contains, All-cons, All-head, All-map, All-nil, All-push, All-tail, All-weaker, all_pairs_push, flat_map, list_any, position_or_len, Point, is_same_point, last_point_or, Edge, DrawingValue, KeepsDrawingLimits, first_point, last_point, points_of, endpoints, edge_between, junctions_of, junction_number, with_points, with_point, same_found, line_there, same_back, All-contains_itself, Contains-get_or, position_or_len_is}
use Rattle.line_graph.proofs.JunctionLemmas.{put_found, put_keeps, seen_keeps, seen_on}

-- a point is the first of a list, or the last
abbrev pub IsTip : List Point → Point → Type 0
IsTip points x = (first_point points ≡ Some x) ⊎ (last_point points ≡ Some x)

-- a point is an end of one of the lines
pub record IsTipOf (d : DrawingValue) (lines : List ℕ) (x : Point) : Type 0 where
  pub line : ℕ
  pub among : Contains lines line
  pub at_end : IsTip (points_of d line) x

-- tips are seen among the ends
tip_seen : (seen points : List Point) (x : Point) → IsTip points x → list_any (is_same_point x) (with_points seen (endpoints points)) ≡ true
tip_seen seen [] x (inl is) = absurd (cc)
tip_seen seen [] x (inr is) = absurd (cc)
tip_seen seen (p ∷ rest) x (inl is) =
    grind (arith, nat_tests, put_keeps (is_same_point x) (with_point seen p) (last_point_or p rest), put_found seen p)
tip_seen seen (p ∷ rest) x (inr is) = grind (arith, nat_tests, put_found (with_point seen p) (last_point_or p rest))

-- and so is each end of each of the lines
tips_seen : (d : DrawingValue) (lines : List ℕ) (seen : List Point) (line : ℕ) → Contains lines line → (x : Point)
    → IsTip (points_of d line) x
    → list_any (is_same_point x) (with_points seen (flat_map (λ line. endpoints (points_of d line)) lines)) ≡ true
tips_seen d lines seen line among x tip =
    All-contains (λ (k : ℕ). (y : Point) → IsTip (points_of d k) y
    → list_any (is_same_point y) (with_points seen (flat_map ends lines)) ≡ true)
    lines line (each lines seen) among x tip
  where
    ends : ℕ → List Point
    ends line = endpoints (points_of d line)

    each : (lines : List ℕ) (seen : List Point) → All (λ (k : ℕ). (y : Point) → IsTip (points_of d k) y
        → list_any (is_same_point y) (with_points seen (flat_map ends lines)) ≡ true) lines
    each [] seen = λ k. λ x. λ below. absurd (omega (arith, below))
    each (line ∷ lines) seen =
        let whole : with_points seen (flat_map ends (line ∷ lines)) ≡ with_points (with_points seen (ends line)) (flat_map ends lines) =
        ap (with_points seen) (flat_map-cons ends line lines) ∙ seen_on seen (ends line) (flat_map ends lines) in
        All-cons (λ (k : ℕ). (y : Point) → IsTip (points_of d k) y
        → list_any (is_same_point y) (with_points seen (flat_map ends (line ∷ lines))) ≡ true) line lines
        (λ y. λ tip. ap (list_any (is_same_point y)) whole
        ∙ seen_keeps (is_same_point y) (with_points seen (ends line)) (flat_map ends lines) (tip_seen seen (points_of d line) y tip))
        (All-weaker (λ (k : ℕ). (y : Point) → IsTip (points_of d k) y
        → list_any (is_same_point y) (with_points (with_points seen (ends line)) (flat_map ends lines)) ≡ true)
        (λ (k : ℕ). (y : Point) → IsTip (points_of d k) y
        → list_any (is_same_point y) (with_points seen (flat_map ends (line ∷ lines))) ≡ true)
        (λ k. λ found. λ y. λ tip. ap (list_any (is_same_point y)) whole ∙ found y tip) lines (each lines (with_points seen (ends line))))

-- what is found has a number below the count
pub found_below : (test : Point → Bool) (xs : List Point) → list_any test xs ≡ true → position_or_len test xs < length xs
found_below test [] found = absurd (cc)
found_below test (x ∷ xs) found = grind (arith, nat_tests, found_below test xs)

-- both ends of each edge are junctions
edge_within : (d : DrawingValue) → KeepsDrawingLimits d → (lines : List ℕ) (line : ℕ) → line < length d.lines → Contains lines line
    → (junction_number (junctions_of d lines) (first_point (points_of d line)) < length (junctions_of d lines))
    × (junction_number (junctions_of d lines) (last_point (points_of d line)) < length (junctions_of d lines))
edge_within d keeps lines line there among = by_points (points_of d line) refl (line_there d line there keeps).long
  where
    js : List Point
    js = junctions_of d lines

    at : (o : Option Point) (x : Point) → o ≡ Some x → list_any (is_same_point x) js ≡ true → junction_number js o < length js
    at o x is found = subst (λ (o : Option Point). junction_number js o < length js) (sym is) (found_below (is_same_point x) js found)

    by_points : (points : List Point) → points_of d line ≡ points → 2 ≤ length (points_of d line)
        → (junction_number js (first_point (points_of d line)) < length js)
        × (junction_number js (last_point (points_of d line)) < length js)
    by_points [] is long = absurd (omega (arith, long, ap length is))
    by_points (p ∷ rest) is long = (
      at (first_point (points_of d line)) p (ap first_point is) (tips_seen d lines [] line among p (inl (ap first_point is))),
      at (last_point (points_of d line)) (last_point_or p rest) (ap last_point is)
          (tips_seen d lines [] line among (last_point_or p rest) (inr (ap last_point is))),
    )

-- and so for all edges
pub edges_within : (d : DrawingValue) → KeepsDrawingLimits d → (lines : List ℕ) → All (λ line. line < length d.lines) lines
    → All (λ (e : Edge). (e.a < length (junctions_of d lines))
    × (e.b < length (junctions_of d lines))) (map (edge_between d (junctions_of d lines)) lines)
edges_within d keeps lines there =
    All-map (λ (e : Edge). (e.a < length (junctions_of d lines))
    × (e.b < length (junctions_of d lines))) (edge_between d (junctions_of d lines)) lines
    (λ k. λ x. λ below. edge_within d keeps lines (get_or lines k x) (there k x below) (Contains-get_or lines k x below))

-- where nothing is found, nothing is
none_found : (test : Point → Bool) (xs : List Point) → list_any test xs ≡ false → All (λ x. test x ≡ false) xs
none_found test [] none = All-nil (λ x. test x ≡ false)
none_found test (x ∷ xs) none = grind (arith, nat_tests, none_found test xs, All-cons (λ x. test x ≡ false) x xs)

-- junctions differ
points_differ : (points more : List Point) → AllPairs (λ a b. is_same_point a b ≡ false) points
    → AllPairs (λ a b. is_same_point a b ≡ false) (with_points points more)
points_differ points [] differ = differ
points_differ points (p ∷ more) differ = points_differ (with_point points p) more (by_test (list_any (is_same_point p) points) refl)
  where
    by_test : (t : Bool) → list_any (is_same_point p) points ≡ t
        → AllPairs (λ a b. is_same_point a b ≡ false) (cond t points (points ++ p ∷ []))
    by_test true is = differ
    by_test false is = all_pairs_push (λ a b. is_same_point a b ≡ false) points p differ
        (λ k. λ x. λ below. same_back (get_or points k x) p ∙ none_found (is_same_point p) points is k x below)

-- so all junctions of a piece differ
pub junctions_differ : (d : DrawingValue) (lines : List ℕ) → AllPairs (λ a b. is_same_point a b ≡ false) (junctions_of d lines)
junctions_differ d lines = grind (arith, nat_tests, points_differ [] (flat_map (λ line. endpoints (points_of d line)) lines))

-- each junction is an end of one of the lines
seen_tips : (P : Point → Type 0) (points more : List Point) → All P points → All P more → All P (with_points points more)
seen_tips P points [] all rest = all
seen_tips P points (p ∷ more) all rest =
    seen_tips P (with_point points p) more (by_test (list_any (is_same_point p) points)) (All-tail P p more rest)
  where
    by_test : (t : Bool) → All P (cond t points (points ++ p ∷ []))
    by_test true = all
    by_test false = All-push P points p all (All-head P p more rest)

-- of a piece
pub junction_tips : (d : DrawingValue) (lines : List ℕ) → All (IsTipOf d lines) (junctions_of d lines)
junction_tips d lines =
    seen_tips (IsTipOf d lines) [] (flat_map (λ line. endpoints (points_of d line)) lines) (All-nil (IsTipOf d lines))
    (each lines (All-contains_itself lines))
  where
    ends : ℕ → List Point
    ends line = endpoints (points_of d line)

    of_line : (line : ℕ) → Contains lines line → (points : List Point) → points_of d line ≡ points
        → All (IsTipOf d lines) (endpoints points)
    of_line line among [] is = All-nil (IsTipOf d lines)
    of_line line among (p ∷ rest) is =
        let first : IsTipOf d lines p = record { line = line; among = among; at_end = inl (ap first_point is) } in
        let last : IsTipOf d lines (last_point_or p rest) = record { line = line; among = among; at_end = inr (ap last_point is) } in
        All-cons (IsTipOf d lines) p (last_point_or p rest ∷ []) first
        (All-cons (IsTipOf d lines) (last_point_or p rest) [] last (All-nil (IsTipOf d lines)))

    each : (some : List ℕ) → All (Contains lines) some → All (IsTipOf d lines) (flat_map ends some)
    each [] all = All-nil (IsTipOf d lines)
    each (line ∷ some) all =
        subst (λ (ps : List Point). All (IsTipOf d lines) ps) (sym (flat_map-cons ends line some))
        (All-append (IsTipOf d lines) (ends line) (flat_map ends some)
        (of_line line (All-head (Contains lines) line some all) (points_of d line) refl)
        (each some (All-tail (Contains lines) line some all)))

-- and the number of that end
pub number_is : (d : DrawingValue) (lines : List ℕ) (j : ℕ) (x : Point) → j < length (junctions_of d lines)
    → position_or_len (is_same_point (get_or (junctions_of d lines) j x)) (junctions_of d lines) ≡ j
number_is d lines j x below =
    let js : List Point = junctions_of d lines in
    position_or_len_is (is_same_point (get_or js j x)) js j x (omega (arith, below))
    (λ k. λ less. same_back (get_or js j x) (get_or js k x) ∙ junctions_differ d lines k j x less below)
    (λ there. same_found (get_or js j x) (get_or js j x) refl)
