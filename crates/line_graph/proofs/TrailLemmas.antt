-- Needle points of passes and of walks, as trails of steps within the longest step.
use Rattle.std.proofs.Common.{◌≡◌, ℕ, ℤ, ◌-ℤ◌, unsigned_abs, IsTrue, List, [], ◌∷◌, reverse, Some, All, arith, refl, sym, ◌∙◌, ap, subst}
use Rattle.std.proofs.lemmas.Int.{ints}
use Rattle.line_graph.proofs.Names.{nat_tests, All-cons, All-head, All-nil, All-tail, Point, IsNeedlePoint, AreCloseAfter, last_point_or, first_point, last_point, some_same, is_point_within, move_between, AreClose}
use mathlib.Core.List.{reverse_aux}
use Rattle.line_graph.proofs.CallerLemmas.{range_back}

-- points from one to another
pub record Trail (step : ℕ) (from to : Point) (points : List Point) : Type 0 where
  pub rest : List Point
  pub is : points ≡ from ∷ rest
  pub last : last_point_or from rest ≡ to
  pub close : AreCloseAfter step from rest
  pub in_range : All IsNeedlePoint (from ∷ rest)

pub trail_of : (step : ℕ) (from to : Point) (points : List Point) → first_point points ≡ Some from → last_point points ≡ Some to
    → AreClose step points → All IsNeedlePoint points → Trail step from to points
trail_of step from to [] first last close in_range = absurd (cc)
trail_of step from to (p ∷ rest) first last close in_range = grind (arith, nat_tests, some_same p from first, some_same)

-- a step is as long the other way
turned : (limit : ℕ) (p q : Point) → IsTrue (is_point_within limit (move_between p q)) → IsTrue (is_point_within limit (move_between q p))
turned limit p q within = rw (same_size q.x p.x, same_size q.y p.y) within
  where
    same_size : (a b : ℤ) → unsigned_abs (b -ℤ a) ≡ unsigned_abs (a -ℤ b)
    same_size a b = omega (arith, ints)

close_back : (step : ℕ) (p : Point) (xs r : List Point) → AreCloseAfter step p xs → AreCloseAfter step p r
    → AreClose step (reverse_aux xs (p ∷ r))
close_back step p [] r forth back = back
close_back step p (x ∷ xs) r forth back = close_back step x xs (p ∷ r) forth.1 (turned step p x forth.0, back)

first_back : (p : Point) (xs r : List Point) → first_point (reverse_aux xs (p ∷ r)) ≡ Some (last_point_or p xs)
first_back p [] r = refl
first_back p (x ∷ xs) r = first_back x xs (p ∷ r)

last_back : (p : Point) (xs r : List Point) → last_point (reverse_aux xs (p ∷ r)) ≡ Some (last_point_or p r)
last_back p [] r = refl
last_back p (x ∷ xs) r = last_back x xs (p ∷ r)

-- points reversed are a trail the other way
pub trail_back : (step : ℕ) (from to : Point) (points : List Point) → Trail step from to points → Trail step to from (reverse points)
trail_back step from to points t =
    subst (λ (ps : List Point). Trail step to from (reverse ps)) (sym t.is)
    (trail_of step to from (reverse_aux t.rest (from ∷ [])) (first_back from t.rest [] ∙ ap (λ (q : Point). Some q) t.last)
    (last_back from t.rest [])
    (close_back step from t.rest [] t.close tt)
    (range_back t.rest (from ∷ []) (All-tail IsNeedlePoint from t.rest t.in_range)
    (All-cons IsNeedlePoint from [] (All-head IsNeedlePoint from t.rest t.in_range) (All-nil IsNeedlePoint))))
