-- The extent of a design: the minimum and maximum x and y of its needle points, in tenths of a
-- millimetre.
use Rattle.std.specs.Prelude.{◌≡◌, ℕ, ℤ, ◌-ℤ◌, ◌≤ℤ◌, unsigned_abs, List, [], ◌∷◌, Option, Some, None, All, Contains, fold, map}
use Rattle.std.specs.Int.{int_min, int_max}
use Rattle.std.specs.List.{filter_map}
use Rattle.design_model.specs.declared.act.NumberedAct.{NumberedAct}
use Rattle.design_model.specs.declared.bounds.Extent.{Extent}
use Rattle.design_model.specs.declared.point.Point.{Point}
use Rattle.design_model.specs.ActKinds.{needle_point}
use Rattle.design_model.specs.Acts.{acts_of}
use Rattle.design_model.specs.Designs.{DesignValue}

-- The points of the needle acts in a list of acts.
abbrev pub needle_points_of_acts : List NumberedAct → List Point
needle_points_of_acts acts = filter_map needle_point acts

-- The points of the needle acts of a design.
abbrev pub needle_points_of_design : DesignValue → List Point
needle_points_of_design d = needle_points_of_acts (acts_of d)

-- The x coordinates of points.
abbrev pub x_coordinates : List Point → List ℤ
x_coordinates points = map (λ p. p.x) points

-- The y coordinates of points.
abbrev pub y_coordinates : List Point → List ℤ
y_coordinates points = map (λ p. p.y) points

-- The smallest extent that contains an extent and further points.
abbrev pub grown_extent : Extent → List Point → Extent
grown_extent extent points = record {
  min = record {
    x = fold int_min extent.min.x (x_coordinates points);
    y = fold int_min extent.min.y (y_coordinates points);
  };
  max = record {
    x = fold int_max extent.max.x (x_coordinates points);
    y = fold int_max extent.max.y (y_coordinates points);
  };
}

-- The extent of one point.
abbrev pub extent_at : Point → Extent
extent_at p = record { min = p; max = p }

-- The extent of a list of points; none for the empty list.
abbrev pub extent_of_points : List Point → Option Extent
extent_of_points [] = None
extent_of_points (p ∷ rest) = Some (grown_extent (extent_at p) rest)

-- The extent of the needle points of a design.
abbrev pub extent_of : DesignValue → Option Extent
extent_of d = extent_of_points (needle_points_of_design d)

-- The smallest extent of an optional extent and further points.
abbrev pub grown_optional_extent : Option Extent → List Point → Option Extent
grown_optional_extent None points = extent_of_points points
grown_optional_extent (Some extent) points = Some (grown_extent extent points)

-- The width of an extent, in tenths of a millimetre; 0 for none.
abbrev pub extent_width : Option Extent → ℕ
extent_width None = 0
extent_width (Some extent) = unsigned_abs (extent.max.x -ℤ extent.min.x)

-- The height of an extent, in tenths of a millimetre; 0 for none.
abbrev pub extent_height : Option Extent → ℕ
extent_height None = 0
extent_height (Some extent) = unsigned_abs (extent.max.y -ℤ extent.min.y)

-- The minimum of a list: an element that no element is below.
pub record IsMinimum (number : ℤ) (numbers : List ℤ) : Type 0 where
  pub bound : All (λ n. number ≤ℤ n) numbers
  pub reached : Contains numbers number

-- The maximum of a list: an element that no element is above.
pub record IsMaximum (number : ℤ) (numbers : List ℤ) : Type 0 where
  pub bound : All (λ n. n ≤ℤ number) numbers
  pub reached : Contains numbers number

-- The extent of points, stated by its corners: the minimum and maximum x and y.
pub record IsExtent (points : List Point) (extent : Extent) : Type 0 where
  pub left : IsMinimum extent.min.x (x_coordinates points)
  pub top : IsMinimum extent.min.y (y_coordinates points)
  pub right : IsMaximum extent.max.x (x_coordinates points)
  pub bottom : IsMaximum extent.max.y (y_coordinates points)

-- The extent of points if there are any, and none for the empty list.
abbrev pub IsExtentOrNone : List Point → Option Extent → Type 0
IsExtentOrNone points None = points ≡ []
IsExtentOrNone points (Some extent) = IsExtent points extent
