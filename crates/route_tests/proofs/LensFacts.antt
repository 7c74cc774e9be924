-- Three lines from one junction to another are a piece.
use Rattle.std.proofs.Common.{◌≡◌, ◌<◌, ◌≤◌, ℕ, zero, suc, Bool, true, false, List, [], ◌∷◌, Option, arith, get_or, pos, refl, sym}
use Rattle.design_model.specs.declared.point.Point.{Point}
use Rattle.design_model.specs.Points.{is_same_point}
use Rattle.line_graph.specs.declared.edge.Edge.{Edge}
use Rattle.line_graph.specs.ValidPieces.{IsValidPiece, is_below}
use Rattle.line_graph.specs.PieceGraphs.{PieceValue, degree}

abbrev edge : (cost : ℕ) → Edge
edge cost = record { a = 0; b = 1; cost = cost }

abbrev lens : List Edge
lens = edge 1 ∷ edge 2 ∷ edge 5 ∷ []

abbrev at : ℕ → Point
at x = record { x = pos x; y = pos 0 }

-- the piece of these lines, between a start and an end
abbrev pub between : (start end : Option ℕ) → PieceValue
between start end = record {
  block = 0;
  lines = 0 ∷ 1 ∷ 2 ∷ [];
  junctions = at 0 ∷ at 10 ∷ [];
  edges = lens;
  degrees = 3 ∷ 3 ∷ [];
  start = start;
  end = end;
}

-- it keeps what each piece keeps
pub keeps_between : (start end : Option ℕ) → is_below 2 start ≡ true → is_below 2 end ≡ true → IsValidPiece (between start end)
keeps_between start end start_below end_below = record {
  some = omega arith;
  few = omega arith;
  beside = refl;
  rising = refl;
  lines_below = refl;
  different = different;
  junctions_few = omega arith;
  ends = refl;
  met = met;
  joined = λ set. λ none. joined set (none 0 (edge 1) refl);
  counted = refl;
  costs = refl;
  cost_few = omega arith;
  start_below = start_below;
  end_below = end_below;
}
  where
    different : (i j : ℕ) (d : Point) → i < j → j < 2
        → is_same_point (get_or (at 0 ∷ at 10 ∷ []) i d) (get_or (at 0 ∷ at 10 ∷ []) j d) ≡ false
    different i zero d low below = absurd (omega arith)
    different zero (suc zero) d low below = refl
    different (suc i) (suc zero) d low below = absurd (omega arith)
    different i (suc (suc j)) d low below = absurd (omega arith)

    met : (j : ℕ) → j < 2 → 1 ≤ degree lens j
    met zero below = omega arith
    met (suc zero) below = omega arith
    met (suc (suc j)) below = absurd (omega arith)

    joined : (set : ℕ → Bool) → set 0 ≡ set 1 → (i j : ℕ) → i < 2 → j < 2 → set i ≡ set j
    joined set one zero zero a b = refl
    joined set one zero (suc zero) a b = one
    joined set one (suc zero) zero a b = sym one
    joined set one (suc zero) (suc zero) a b = refl
    joined set one (suc (suc i)) j a b = absurd (omega arith)
    joined set one i (suc (suc j)) a b = absurd (omega arith)
