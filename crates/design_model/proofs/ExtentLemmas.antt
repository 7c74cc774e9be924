-- The corners of an extent are the least and the greatest of the columns and rows.
use Rattle.std.proofs.Common.{◌≡◌, ◌⊎◌, inl, inr, ℤ, suc, List, [], ◌∷◌, Option, Some, None, refl, subst, sym, arith, Contains}
use Rattle.std.proofs.lemmas.Int.{fold-int_min_bounds, fold-int_min_reached, fold-int_max_bounds, fold-int_max_reached}
use Rattle.std.proofs.lemmas.List.Elements.{All-cons}
use Rattle.std.specs.Int.{int_min, int_max}
use Rattle.design_model.proofs.Names.{◌≤ℤ◌, fold, Point, IsExtentOrNone, IsMaximum, IsMinimum, x_coordinates, extent_of_points, y_coordinates}
use Rattle.design_model.specs.declared.bounds.Extent.{Extent}

-- a number that is the head or in the tail is in the list
contains_from : (a r : ℤ) (xs : List ℤ) → (r ≡ a) ⊎ Contains xs r → Contains (a ∷ xs) r
contains_from a r xs (inl e) = (0, omega arith, sym e)
contains_from a r xs (inr (k, below, e)) = (suc k, omega arith, e)

-- the fold of the lesser is the least
fold-least : (a : ℤ) (xs : List ℤ) → IsMinimum (fold int_min a xs) (a ∷ xs)
fold-least a xs =
    let least = fold int_min a xs in
    let bounds = fold-int_min_bounds a xs least refl in
    record {
      bound = All-cons (λ n. least ≤ℤ n) a xs bounds.0 bounds.1;
      reached = contains_from a least xs (fold-int_min_reached a xs least refl);
    }

-- the fold of the greater is the greatest
fold-greatest : (a : ℤ) (xs : List ℤ) → IsMaximum (fold int_max a xs) (a ∷ xs)
fold-greatest a xs =
    let greatest = fold int_max a xs in
    let bounds = fold-int_max_bounds a xs greatest refl in
    record {
      bound = All-cons (λ n. n ≤ℤ greatest) a xs bounds.0 bounds.1;
      reached = contains_from a greatest xs (fold-int_max_reached a xs greatest refl);
    }

-- the extent of points has their least and greatest x and y
pub bounds_of_points : (points : List Point) (extent : Option Extent) → extent ≡ extent_of_points points → IsExtentOrNone points extent
bounds_of_points [] None is = refl
bounds_of_points [] (Some extent) is = cc
bounds_of_points (p ∷ rest) None is = cc
bounds_of_points (p ∷ rest) (Some extent) is =
    subst (λ e. IsExtentOrNone (p ∷ rest) e) (sym is) (record {
      left = fold-least p.x (x_coordinates rest);
      top = fold-least p.y (y_coordinates rest);
      right = fold-greatest p.x (x_coordinates rest);
      bottom = fold-greatest p.y (y_coordinates rest);
    })
