-- The tree of the tests of lifting keeps what each piece keeps.
use Rattle.std.proofs.Common.{◌≡◌, ◌≤◌, ◌<◌, ℕ, zero, suc, Bool, true, false, not, ◌&&◌, ◌||◌, List, [], ◌∷◌, None, All, AllPairs, arith, refl, sym, ◌∙◌}
use Rattle.std.proofs.lemmas.Bool.{and_parts}
use Rattle.std.proofs.lemmas.List.Elements.{All-cons, All-nil}
use Rattle.std.proofs.lemmas.List.Kept.{AllPairs-cons}
use Rattle.std.specs.List.{list_any}
use Rattle.design_model.specs.declared.point.Point.{Point}
use Rattle.design_model.specs.Points.{is_same_point}
use Rattle.line_graph.specs.declared.edge.Edge.{Edge}
use Rattle.line_graph.specs.ValidPieces.{IsValidPiece, NoEdgeLeaves}
use Rattle.line_graph.specs.PieceGraphs.{PieceValue, degree}
use Rattle.route_tests.specs.MoatLoads.{corner_points}

abbrev edge : (a b cost : ℕ) → Edge
edge a b cost = record { a = a; b = b; cost = cost }

abbrev edges : List Edge
edges = edge 0 2 2 ∷ edge 1 2 2 ∷ edge 2 6 2 ∷ edge 6 3 2 ∷ edge 3 7 2 ∷ edge 7 4 1 ∷ edge 3 5 3 ∷ []

abbrev pub tree : PieceValue
tree = record {
  block = 0;
  lines = 0 ∷ 1 ∷ 2 ∷ 3 ∷ 4 ∷ 5 ∷ 6 ∷ [];
  junctions = corner_points;
  edges = edges;
  degrees = 1 ∷ 1 ∷ 3 ∷ 3 ∷ 1 ∷ 1 ∷ 2 ∷ 2 ∷ [];
  start = None;
  end = None;
}

-- no two of the points are the same
abbrev distinct : List Point → Bool
distinct [] = true
distinct (p ∷ ps) = not (list_any (is_same_point p) ps) && distinct ps

none_same : (p : Point) (ps : List Point) → list_any (is_same_point p) ps ≡ false → All (λ q. is_same_point p q ≡ false) ps
none_same p [] none = All-nil (λ q. is_same_point p q ≡ false)
none_same p (q ∷ qs) none =
    All-cons (λ q. is_same_point p q ≡ false) q qs (left (is_same_point p q) (list_any (is_same_point p) qs) none)
    (none_same p qs (right (is_same_point p q) (list_any (is_same_point p) qs) none))
  where
    left : (a b : Bool) → (a || b) ≡ false → a ≡ false
    left true b h = h
    left false b h = refl

    right : (a b : Bool) → (a || b) ≡ false → b ≡ false
    right true b h = absurd (cc)
    right false b h = h

different : (ps : List Point) → distinct ps ≡ true → AllPairs (λ p q. is_same_point p q ≡ false) ps
different [] is = λ i j d low below. absurd (omega arith)
different (p ∷ ps) is =
    let parts = and_parts (not (list_any (is_same_point p) ps)) (distinct ps) is in
    AllPairs-cons (λ p q. is_same_point p q ≡ false) p ps (none_same p ps (off (list_any (is_same_point p) ps) parts.0))
    (different ps parts.1)
  where
    off : (a : Bool) → not a ≡ true → a ≡ false
    off true h = sym h
    off false h = refl

met : (j : ℕ) → j < 8 → 1 ≤ degree edges j
met zero lt = omega arith
met (suc zero) lt = omega arith
met (suc (suc zero)) lt = omega arith
met (suc (suc (suc zero))) lt = omega arith
met (suc (suc (suc (suc zero)))) lt = omega arith
met (suc (suc (suc (suc (suc zero))))) lt = omega arith
met (suc (suc (suc (suc (suc (suc zero)))))) lt = omega arith
met (suc (suc (suc (suc (suc (suc (suc zero))))))) lt = omega arith
met (suc (suc (suc (suc (suc (suc (suc (suc j)))))))) lt = absurd (omega arith)

-- all junctions are on the side of junction 2
beside : (set : ℕ → Bool) → NoEdgeLeaves edges set → (j : ℕ) → j < 8 → set j ≡ set 2
beside set none zero lt = none 0 (edge 0 2 2) refl
beside set none (suc zero) lt = none 1 (edge 1 2 2) refl
beside set none (suc (suc zero)) lt = refl
beside set none (suc (suc (suc zero))) lt = sym (none 3 (edge 6 3 2) refl) ∙ sym (none 2 (edge 2 6 2) refl)
beside set none (suc (suc (suc (suc zero)))) lt =
    sym (none 5 (edge 7 4 1) refl) ∙ sym (none 4 (edge 3 7 2) refl) ∙ sym (none 3 (edge 6 3 2) refl) ∙ sym (none 2 (edge 2 6 2) refl)
beside set none (suc (suc (suc (suc (suc zero))))) lt =
    sym (none 6 (edge 3 5 3) refl) ∙ sym (none 3 (edge 6 3 2) refl) ∙ sym (none 2 (edge 2 6 2) refl)
beside set none (suc (suc (suc (suc (suc (suc zero)))))) lt = sym (none 2 (edge 2 6 2) refl)
beside set none (suc (suc (suc (suc (suc (suc (suc zero))))))) lt =
    sym (none 4 (edge 3 7 2) refl) ∙ sym (none 3 (edge 6 3 2) refl) ∙ sym (none 2 (edge 2 6 2) refl)
beside set none (suc (suc (suc (suc (suc (suc (suc (suc j)))))))) lt = absurd (omega arith)

-- the tree is a piece
pub keeps_tree : IsValidPiece tree
keeps_tree = record {
  some = omega arith;
  few = omega arith;
  beside = refl;
  rising = refl;
  lines_below = refl;
  different = different corner_points refl;
  junctions_few = omega arith;
  ends = refl;
  met = met;
  joined = λ set none i j in_i in_j. beside set none i in_i ∙ sym (beside set none j in_j);
  counted = refl;
  costs = refl;
  cost_few = omega arith;
  start_below = refl;
  end_below = refl;
}
