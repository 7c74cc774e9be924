-- Worked values of the extent.
use Rattle.std.proofs.Common.{◌≡◌, ℤ, pos, negsuc, [], ◌∷◌, Contains, Some, None, refl, arith}
use Rattle.design_model.proofs.Names.{Stitch, Jump, Point, acts_along, IsExtentOrNone, IsMaximum, IsMinimum, ◌≤ℤ◌, extent_of_points, extent_height, needle_points_of_acts, extent_width, grown_optional_extent}
use Rattle.design_model.specs.Extents.{IsExtent}
use Rattle.design_model.specs.declared.bounds.Extent.{Extent}
use Rattle.design_model.specs.declared.command.Command.TheVariants.{Trim, Stop}

-- the point with those coordinates
abbrev pub place : ℤ → ℤ → Point
place x y = record { x = x; y = y }

-- without a needle there is no extent
pub known_extent_of_points : (extent_of_points (needle_points_of_acts (acts_along (Jump (place (pos 9) (pos 9)) ∷ Trim ∷ Stop ∷ [])))
    ≡ None)
    -- one needle is its own extent, and the origin is not in it
    × (extent_of_points (needle_points_of_acts (acts_along (Stitch (place (pos 3) (negsuc 4)) ∷ [])))
    ≡ Some (record { min = place (pos 3) (negsuc 4); max = place (pos 3) (negsuc 4) }))
    -- needles at (-2, 7), (-9, -1) and (-4, 12), and a jump far away that does not count
    × (extent_of_points (needle_points_of_acts (acts_along (Stitch (place (negsuc 1) (pos 7))
    ∷ Jump (place (pos 500) (negsuc 499)) ∷ Stitch (place (negsuc 8) (negsuc 0)) ∷ Trim ∷ Stop
    ∷ Stitch (place (negsuc 3) (pos 12)) ∷ [])))
    ≡ Some (record { min = place (negsuc 8) (negsuc 0); max = place (negsuc 1) (pos 12) }))
known_extent_of_points = (refl, refl, refl)

-- a width is measured from left to right, a height downwards
pub known_width : (extent_width (Some (record { min = place (negsuc 8) (negsuc 0); max = place (negsuc 1) (pos 12) })) ≡ 7)
    × (extent_height (Some (record { min = place (negsuc 8) (negsuc 0); max = place (negsuc 1) (pos 12) })) ≡ 13)
    × (extent_width None ≡ extent_height None)
known_width = (refl, refl, refl)

-- a point has an extent
pub known_some : IsExtentOrNone (place (pos 3) (pos 4) ∷ []) None → ⊥
known_some none = some none
  where
    some : place (pos 3) (pos 4) ∷ [] ≡ [] → ⊥
    some is = cc

-- an extent from (-9, -1) to (-2, 12) grows on two sides; without one the points have their own
pub known_grown :
    (grown_optional_extent (Some (record { min = place (negsuc 8) (negsuc 0); max = place (negsuc 1) (pos 12) }))
    (place (negsuc 4) (negsuc 6) ∷ place (pos 5) (pos 3) ∷ [])
    ≡ Some (record { min = place (negsuc 8) (negsuc 6); max = place (pos 5) (pos 12) }))
    × (grown_optional_extent None (place (pos 2) (pos 7) ∷ place (pos 5) (pos 3) ∷ [])
    ≡ Some (record { min = place (pos 2) (pos 3); max = place (pos 5) (pos 7) }))
known_grown = (refl, refl)

-- a minimum of 3, -7 and 5 is one of them and above none, and a maximum is below none
pub known_minimum : (least : ℤ) → IsMinimum least (pos 3 ∷ negsuc 6 ∷ pos 5 ∷ [])
    → (least ≤ℤ pos 3) × (least ≤ℤ negsuc 6) × (least ≤ℤ pos 5) × Contains (pos 3 ∷ negsuc 6 ∷ pos 5 ∷ []) least
known_minimum least is = (is.bound 0 least (omega arith), is.bound 1 least (omega arith), is.bound 2 least (omega arith), is.reached)

pub known_maximum : (most : ℤ) → IsMaximum most (pos 3 ∷ negsuc 6 ∷ pos 5 ∷ [])
    → (pos 3 ≤ℤ most) × (negsuc 6 ≤ℤ most) × (pos 5 ≤ℤ most) × Contains (pos 3 ∷ negsuc 6 ∷ pos 5 ∷ []) most
known_maximum most is = (is.bound 0 most (omega arith), is.bound 1 most (omega arith), is.bound 2 most (omega arith), is.reached)

-- each side of an extent is the minimum or the maximum of its own axis
pub known_sides : (p q : Point) (extent : Extent) → IsExtent (p ∷ q ∷ []) extent
    → IsMinimum extent.min.x (p.x ∷ q.x ∷ []) × IsMinimum extent.min.y (p.y ∷ q.y ∷ [])
    × IsMaximum extent.max.x (p.x ∷ q.x ∷ []) × IsMaximum extent.max.y (p.y ∷ q.y ∷ [])
known_sides p q extent is = (is.left, is.top, is.right, is.bottom)
