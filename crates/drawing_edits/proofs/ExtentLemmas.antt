-- The extent of needle points has needle points as its corners.
use Rattle.std.proofs.Common.{◌≡◌, All, IfSome, List, [], ◌∷◌, Option, arith, subst, sym}
use Rattle.std.proofs.lemmas.Int.{ints}
use Rattle.drawing_edits.proofs.Names.{nat_tests, All-head, All-nil, All-tail, Point, IsLine, LineValue, IsNeedlePoint, All-append, IsNeedleExtent, points_of_lines}
use Rattle.design_model.specs.declared.bounds.Extent.{Extent}
use Rattle.design_model.specs.Extents.{extent_at, extent_of_points, grown_extent}

-- one more needle point
with_point : (e : Extent) (at : Point) → IsNeedleExtent e → IsNeedlePoint at → IsNeedleExtent (grown_extent e (at ∷ []))
with_point e at h1 h2 = grind (arith, nat_tests, ints)

grown_within : (e : Extent) (points : List Point) → IsNeedleExtent e → All IsNeedlePoint points → IsNeedleExtent (grown_extent e points)
grown_within e [] within all = within
grown_within e (p ∷ rest) within all = grown_within (grown_extent e (p ∷ [])) rest
    (with_point e p within (All-head IsNeedlePoint p rest all)) (All-tail IsNeedlePoint p rest all)

points_within : (points : List Point) → All IsNeedlePoint points → IfSome (extent_of_points points) IsNeedleExtent
points_within [] all = tt
points_within (p ∷ rest) all =
    let here = All-head IsNeedlePoint p rest all in
    grown_within (extent_at p) rest (record { min = here; max = here }) (All-tail IsNeedlePoint p rest all)

in_range : (lines : List LineValue) → All (λ (line : LineValue). IsLine line.points) lines → All IsNeedlePoint (points_of_lines lines)
in_range [] all = All-nil IsNeedlePoint
in_range (line ∷ rest) all = All-append IsNeedlePoint line.points (points_of_lines rest)
    (All-head (λ (line : LineValue). IsLine line.points) line rest all).in_range
    (in_range rest (All-tail (λ (line : LineValue). IsLine line.points) line rest all))

pub extent_within : (lines : List LineValue) (extent : Option Extent) → All (λ (line : LineValue). IsLine line.points) lines
    → extent ≡ extent_of_points (points_of_lines lines) → IfSome extent IsNeedleExtent
extent_within lines extent all is =
    subst (λ (e : Option Extent). IfSome e IsNeedleExtent) (sym is) (points_within (points_of_lines lines) (in_range lines all))
