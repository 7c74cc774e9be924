-- The extent of a design's needles has needle points as its corners.
use Rattle.std.proofs.Common.{◌≡◌, All, IfSome, IsTrue, List, [], ◌∷◌, Option, Some, None, arith, subst, sym, true, false, refl}
use Rattle.std.proofs.lemmas.Int.{ints}
use Rattle.design_model.specs.declared.act.Act.TheVariants as act
use Rattle.design_model.specs.declared.act.NumberedAct.{NumberedAct}
use Rattle.design_model.specs.declared.bounds.Extent.{Extent}
use Rattle.design_model.specs.ActKinds.{needle_point}
use Rattle.design_model.specs.ActPositions.{is_act_in_range}
use Rattle.design_model.specs.Designs.{DesignValue, KeepsLimits}
use Rattle.design_model.specs.Extents.{extent_at, extent_of, extent_of_points, grown_extent, needle_points_of_acts}
use Rattle.design_model.proofs.CallerLemmas.{acts_in_range}
use Rattle.design_model.proofs.ListLemmas.{first_true, second_true}
use Rattle.drawing_edits.specs.MovedDrawings.{IsNeedleExtent}
use Rattle.std.proofs.lemmas.List.Elements.{All-cons, All-nil, All-head, All-tail}
use Rattle.std.specs.List.{list_all}
use Rattle.step_splitter.specs.Chains.{IsNeedlePoint}
use Rattle.sewing_edits.proofs.Names.{nat_tests, Act, Point, act_point, acts_of}

-- one more needle point
with_needle : (e : Extent) (at : Point) → IsNeedleExtent e → IsNeedlePoint at → IsNeedleExtent (grown_extent e (at ∷ []))
with_needle e at within here = grind (arith, nat_tests, ints)

grown_by_needles : (e : Extent) (points : List Point) → IsNeedleExtent e → All IsNeedlePoint points → IsNeedleExtent (grown_extent e points)
grown_by_needles e [] within all = within
grown_by_needles e (p ∷ rest) within all = grown_by_needles (grown_extent e (p ∷ [])) rest
    (with_needle e p within (All-head IsNeedlePoint p rest all)) (All-tail IsNeedlePoint p rest all)

corners_are_needles : (points : List Point) → All IsNeedlePoint points → IfSome (extent_of_points points) IsNeedleExtent
corners_are_needles [] all = tt
corners_are_needles (p ∷ rest) all =
    let here = All-head IsNeedlePoint p rest all in
    grown_by_needles (extent_at p) rest (record { min = here; max = here }) (All-tail IsNeedlePoint p rest all)

-- the needle of an act in range is in range
act_in_range : (a : Act) → IsTrue (is_act_in_range a) → IfSome (act_point a) IsNeedlePoint
act_in_range (act.Needle p float) here = here
act_in_range act.Trim here = tt
act_in_range act.Stop here = tt

-- needles of acts in range are in range
needles_in_range : (acts : List NumberedAct) → IsTrue (list_all (λ a. is_act_in_range a.act) acts)
    → All IsNeedlePoint (needle_points_of_acts acts)
needles_in_range [] all = All-nil IsNeedlePoint
needles_in_range (a ∷ rest) all =
    by_point (needle_point a) refl
    (act_in_range a.act (first_true (is_act_in_range a.act) (list_all (λ b. is_act_in_range b.act) rest) all))
    (needles_in_range rest (second_true (is_act_in_range a.act) (list_all (λ b. is_act_in_range b.act) rest) all))
  where
    by_point : (found : Option Point) → needle_point a ≡ found → IfSome (needle_point a) IsNeedlePoint
        → All IsNeedlePoint (needle_points_of_acts rest) → All IsNeedlePoint (needle_points_of_acts (a ∷ rest))
    by_point None is here later = rw is later
    by_point (Some p) is here later = rw is (All-cons IsNeedlePoint p (needle_points_of_acts rest) (rw is at here) later)

-- the corners of a design's extent are needle points
pub needle_corners : (d : DesignValue) (extent : Option Extent) → KeepsLimits d → extent ≡ extent_of d → IfSome extent IsNeedleExtent
needle_corners d extent limits is =
    subst (λ (e : Option Extent). IfSome e IsNeedleExtent) (sym is)
    (corners_are_needles (needle_points_of_acts (acts_of d))
    (needles_in_range (acts_of d) (acts_in_range 1 true false d.commands limits.in_range)))
