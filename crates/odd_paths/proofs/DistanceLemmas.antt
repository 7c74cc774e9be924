-- Least costs: home, back, along an edge, and through a third junction.
use Rattle.std.proofs.Common.{◌≡◌, ◌≢◌, ℕ, ◌+◌, ◌≤◌, List, [], ◌∷◌, ◌++◌, true, Some, inl, inr, refl, arith}
use Rattle.std.specs.Prelude.{slice_get}
use Rattle.odd_paths.proofs.Names.{nat_tests, Edge, IsValidPiece, all_costs_positive, PieceValue, IsLeastEdgeCost, IsEdgeWalk, Connects, edge_walk_cost, AreDistances}
use Rattle.odd_paths.proofs.LastLemmas.{more_at}
use Rattle.odd_paths.proofs.PassLemmas.{over_places}
use Rattle.odd_paths.proofs.PlaceLemmas.{cost_append, cost_one, walk_append, walk_back, walk_one}

home : (es : List Edge) (i d : ℕ) → IsLeastEdgeCost es i i d → d ≡ 0
home es i d least = let none : d ≤ 0 = least.least [] refl in omega arith

-- a walk between different junctions has an edge, and each edge costs a step
some_cost : (es : List Edge) (i j : ℕ) (ks : List ℕ) → all_costs_positive es ≡ true → i ≢ j → IsEdgeWalk es i j ks
    → 1 ≤ edge_walk_cost es ks
some_cost es i j [] costs differ walk = absurd (differ walk)
some_cost es i j (k ∷ ks) costs differ walk = grind (arith, nat_tests, more_at)

apart : (es : List Edge) (i j d : ℕ) → all_costs_positive es ≡ true → i ≢ j → IsLeastEdgeCost es i j d → 1 ≤ d
apart es i j d costs differ least = grind (arith, nat_tests, some_cost)

-- the way back is no dearer
no_dearer : (es : List Edge) (i j d f : ℕ) → IsLeastEdgeCost es i j d → IsLeastEdgeCost es j i f → d ≤ f
no_dearer es i j d f one other = grind (arith, nat_tests, walk_back)

along : (es : List Edge) (t i j k d f : ℕ) (e : Edge) → slice_get es k ≡ Some e → Connects e i j → IsLeastEdgeCost es t i d
    → IsLeastEdgeCost es t j f → f ≤ d + e.cost
along es t i j k d f e got links near far =
    let walk = near.there in
    let longer = walk_append es t i j walk.0 (k ∷ []) walk.1 (walk_one es i j k e got links) in
    omega (arith, far.least (walk.0 ++ k ∷ []) longer, cost_append es walk.0 (k ∷ []), cost_one es k e got, walk.2)

through : (es : List Edge) (i m j d f g : ℕ) → IsLeastEdgeCost es i j d → IsLeastEdgeCost es i m f → IsLeastEdgeCost es m j g → d ≤ f + g
through es i m j d f g whole one two = grind (arith, nat_tests, walk_append, cost_append)

-- two ways that meet
meeting : (es : List Edge) (i m j d f g : ℕ) → IsLeastEdgeCost es i j d → IsLeastEdgeCost es i m f → IsLeastEdgeCost es j m g → d ≤ f + g
meeting es i m j d f g whole one other =
    let first = one.there in
    let second = other.there in
    let turned = walk_back es j m second.0 second.1 in
    let joined = walk_append es i m j first.0 turned.0 first.1 turned.1 in
    omega (arith, whole.least (first.0 ++ turned.0) joined, cost_append es first.0 turned.0, first.2, turned.2, second.2)

pub are_distances : (p : PieceValue) → IsValidPiece p → AreDistances p
are_distances p keeps = record {
  home = λ i d least. home p.edges i d (over_places p keeps i i d least);
  apart = λ i j d differ least. apart p.edges i j d keeps.costs differ (over_places p keeps i j d least);
  back = λ i j d f one other. (
      let there = over_places p keeps i j d one in
      let home = over_places p keeps j i f other in
      let most = no_dearer p.edges i j d f there home in
      let least = no_dearer p.edges j i f d home there in
      omega arith);
  along = λ i k d f e got one other. (
      let at_a = over_places p keeps i e.a d one in
      let at_b = over_places p keeps i e.b f other in
      (along p.edges i e.a e.b k d f e got (inl (refl, refl)) at_a at_b, along p.edges i e.b e.a k f d e got (inr (refl, refl)) at_b at_a));
  through = λ i m j d f g whole one two.
      through p.edges i m j d f g (over_places p keeps i j d whole) (over_places p keeps i m f one) (over_places p keeps m j g two);
  meeting = λ i m j d f g whole one other.
      meeting p.edges i m j d f g (over_places p keeps i j d whole) (over_places p keeps i m f one) (over_places p keeps j m g other);
}
