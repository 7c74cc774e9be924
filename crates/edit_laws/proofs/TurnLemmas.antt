-- Turns and mirrorings keep which points are equal, and the number of steps of a segment.
use Rattle.std.proofs.Common.{◌≡◌, ◌∙◌, ℕ, zero, suc, max, ℤ, ◌-ℤ◌, neg_ℤ, unsigned_abs, Bool, true, false, ◌&&◌, refl, ap, arith}
use Rattle.edit_laws.proofs.Names.{Decides-int_eq, nat_tests, div_ceil, int_eq, turn_point, Point, is_same_point, move_between, move_size, TurnKeepsCosts, same_test, mirror_point, quarter_point, MirrorKeepsCosts}
use Rattle.design_edits.specs.declared.axis.Axis.{Axis}
use Rattle.design_edits.specs.declared.axis.Axis.TheVariants as axis
use Rattle.edit_laws.proofs.MovedCosts.{costs_kept}

equal_negated : (a b : ℤ) → int_eq (neg_ℤ a) (neg_ℤ b) ≡ int_eq a b
equal_negated a b = same_test (int_eq (neg_ℤ a) (neg_ℤ b)) (int_eq a b)
    (λ is. (Decides-int_eq a b).1 (grind (arith, nat_tests)))
    (λ is. (Decides-int_eq (neg_ℤ a) (neg_ℤ b)).1 (ap neg_ℤ ((Decides-int_eq a b).0 is)))

and_turned : (a b : Bool) → (a && b) ≡ (b && a)
and_turned true true = refl
and_turned true false = refl
and_turned false true = refl
and_turned false false = refl

max_turned : (m n : ℕ) → max m n ≡ max n m
max_turned m n = omega arith

-- a quarter turn
quarter_same : (p q : Point) → is_same_point (quarter_point p) (quarter_point q) ≡ is_same_point p q
quarter_same p q = ap (λ (t : Bool). t && int_eq p.x q.x) (equal_negated p.y q.y) ∙ and_turned (int_eq p.y q.y) (int_eq p.x q.x)

quarter_size : (p q : Point) → move_size (move_between (quarter_point p) (quarter_point q)) ≡ move_size (move_between p q)
quarter_size p q = ap (λ (n : ℕ). max n (unsigned_abs (q.x -ℤ p.x))) (grind (arith, nat_tests))
    ∙ max_turned (unsigned_abs (q.y -ℤ p.y)) (unsigned_abs (q.x -ℤ p.x))

pub turn_same : (quarters : ℕ) (p q : Point) → is_same_point (turn_point quarters p) (turn_point quarters q) ≡ is_same_point p q
turn_same zero p q = refl
turn_same (suc quarters) p q = quarter_same (turn_point quarters p) (turn_point quarters q) ∙ turn_same quarters p q

turn_size : (quarters : ℕ) (p q : Point)
    → move_size (move_between (turn_point quarters p) (turn_point quarters q)) ≡ move_size (move_between p q)
turn_size zero p q = refl
turn_size (suc quarters) p q = quarter_size (turn_point quarters p) (turn_point quarters q) ∙ turn_size quarters p q

pub turn_costs : TurnKeepsCosts
turn_costs quarters d = costs_kept (turn_point quarters) (turn_same quarters)
    (λ step p q. ap (λ (n : ℕ). div_ceil n step) (turn_size quarters p q)) d

-- a mirroring
pub mirror_same : (a : Axis) (p q : Point) → is_same_point (mirror_point a p) (mirror_point a q) ≡ is_same_point p q
mirror_same axis.X p q = ap (λ (t : Bool). t && int_eq p.y q.y) (equal_negated p.x q.x)
mirror_same axis.Y p q = ap (λ (t : Bool). int_eq p.x q.x && t) (equal_negated p.y q.y)

mirror_size : (a : Axis) (p q : Point) → move_size (move_between (mirror_point a p) (mirror_point a q)) ≡ move_size (move_between p q)
mirror_size axis.X p q = ap (λ (n : ℕ). max n (unsigned_abs (q.y -ℤ p.y))) (grind (arith, nat_tests))
mirror_size axis.Y p q = ap (λ (n : ℕ). max (unsigned_abs (q.x -ℤ p.x)) n) (grind (arith, nat_tests))

pub mirror_costs : MirrorKeepsCosts
mirror_costs a d = costs_kept (mirror_point a) (mirror_same a)
    (λ step p q. ap (λ (n : ℕ). div_ceil n step) (mirror_size a p q)) d
