-- How far needles reach from the origin is how far their extent does.
use Rattle.std.proofs.Common.{◌≡◌, max, ℤ, List, [], ◌∷◌, map, refl, arith}
use Rattle.std.proofs.Math.Nat.{zero-max}
use Rattle.std.specs.Prelude.{fold}
use Rattle.dst_codec.proofs.Names.{nat_tests, ints, Act, NumberedAct, Point, size_above_zero, size_below_zero, extents_of, max_measure, needle_measure, extents_from_origin, cons_option, int_max, int_min}
use Rattle.dst_codec.specs.declared.header.Extents.{Extents}
use Rattle.design_model.specs.declared.act.Act.TheVariants as act
use Rattle.design_model.specs.ActKinds.{act_point}
use Rattle.design_model.specs.Extents.{extent_of_points, needle_points_of_acts}

above_max : (a b : ℤ) → size_above_zero (int_max a b) ≡ max (size_above_zero a) (size_above_zero b)
above_max a b = grind (arith, nat_tests, ints)

below_min : (a b : ℤ) → size_below_zero (int_min a b) ≡ max (size_below_zero a) (size_below_zero b)
below_min a b = grind (arith, nat_tests, ints)

-- the greatest number of a coordinate, begun with another
above_along : (f : Point → ℤ) (z : ℤ) (acts : List NumberedAct)
    → size_above_zero (fold int_max z (map f (needle_points_of_acts acts)))
    ≡ max (size_above_zero z) (max_measure (λ p. size_above_zero (f p)) acts)
above_along f z [] = omega arith
above_along f z (a ∷ rest) = step a.act (λ z. above_along f z rest)
  where
    step : (a : Act) → ((z : ℤ) → size_above_zero (fold int_max z (map f (needle_points_of_acts rest)))
        ≡ max (size_above_zero z) (max_measure (λ p. size_above_zero (f p)) rest))
        → size_above_zero (fold int_max z (map f (cons_option (act_point a) (needle_points_of_acts rest))))
        ≡ max (size_above_zero z) (max (needle_measure (λ p. size_above_zero (f p)) a) (max_measure (λ p. size_above_zero (f p)) rest))
    step (act.Needle p float) more = omega (arith, more (int_max z (f p)), above_max z (f p))
    step act.Trim more = omega (arith, more z)
    step act.Stop more = omega (arith, more z)

-- and the least
below_along : (f : Point → ℤ) (z : ℤ) (acts : List NumberedAct)
    → size_below_zero (fold int_min z (map f (needle_points_of_acts acts)))
    ≡ max (size_below_zero z) (max_measure (λ p. size_below_zero (f p)) acts)
below_along f z [] = omega arith
below_along f z (a ∷ rest) = step a.act (λ z. below_along f z rest)
  where
    step : (a : Act) → ((z : ℤ) → size_below_zero (fold int_min z (map f (needle_points_of_acts rest)))
        ≡ max (size_below_zero z) (max_measure (λ p. size_below_zero (f p)) rest))
        → size_below_zero (fold int_min z (map f (cons_option (act_point a) (needle_points_of_acts rest))))
        ≡ max (size_below_zero z) (max (needle_measure (λ p. size_below_zero (f p)) a) (max_measure (λ p. size_below_zero (f p)) rest))
    step (act.Needle p float) more = omega (arith, more (int_min z (f p)), below_min z (f p))
    step act.Trim more = omega (arith, more z)
    step act.Stop more = omega (arith, more z)

-- the extents with an act before the others
abbrev with_act : Act → List NumberedAct → Extents
with_act a rest = record {
  right = max (needle_measure (λ p. size_above_zero p.x) a) (max_measure (λ p. size_above_zero p.x) rest);
  left = max (needle_measure (λ p. size_below_zero p.x) a) (max_measure (λ p. size_below_zero p.x) rest);
  up = max (needle_measure (λ p. size_below_zero p.y) a) (max_measure (λ p. size_below_zero p.y) rest);
  down = max (needle_measure (λ p. size_above_zero p.y) a) (max_measure (λ p. size_above_zero p.y) rest);
}

-- the extent of the needles reaches as far as they do
pub reached_extent : (acts : List NumberedAct) → extents_from_origin (extent_of_points (needle_points_of_acts acts)) ≡ extents_of acts
reached_extent [] = refl
reached_extent (a ∷ rest) = grind (arith, nat_tests, a.act, above_along, below_along, zero-max, (reached_extent rest))
