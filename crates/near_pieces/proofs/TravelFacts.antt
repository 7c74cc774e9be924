-- Worked values of travel through places, and orders that are refuted.
use Rattle.std.proofs.Common.{◌≡◌, ℤ, ℕ, pos, List, [], ◌∷◌, Some, None, map, refl, arith}
use Rattle.near_pieces.proofs.Names.{IsNearOrder, IsOrderOf, Point, Visit, length_permutation, travel_in, exit_from}
use Rattle.near_pieces.specs.Visits.{entry_from, nearer_of}
use Rattle.design_model.specs.Lengths.{length_of, square_of, whole_root}

abbrev point : ℤ → ℤ → Point
point x y = record { x = x; y = y }

-- A place with two points, and one that is left at another point than it is entered.
abbrev open_place : Visit
open_place = record { first = point (pos 3) (pos 0); others = point (pos 0) (pos 3) ∷ point (pos 0) (pos 2) ∷ []; leaves = None }

abbrev passed_place : Visit
passed_place = record { first = point (pos 0) (pos 10); others = []; leaves = Some (point (pos 30) (pos 10)) }

-- A place is entered at its nearest point, and at the first of two that are as near, or if nothing was visited before.
pub known_entries : entry_from (Some (point (pos 0) (pos 0))) open_place ∷ nearer_of (point (pos 0) (pos 0)) (point (pos 3) (pos 0)) (point
    (pos 0) (pos 3))
    ∷ entry_from None open_place ∷ [] ≡ point (pos 0) (pos 2) ∷ point (pos 3) (pos 0) ∷ point (pos 3) (pos 0) ∷ []
unfolding square_of
known_entries = refl

-- It is left where it was entered, or where it says.
pub known_exits : map (exit_from (Some (point (pos 0) (pos 0)))) (open_place ∷ passed_place ∷ [])
    ≡ point (pos 0) (pos 2) ∷ point (pos 30) (pos 10) ∷ []
unfolding square_of
known_exits = refl

-- From the origin 0.2 mm and 0.8 mm; without a point before, only the way between the two, from 3 0 to 0 10.
pub known_travels : travel_in (open_place ∷ passed_place ∷ []) (Some (point (pos 0) (pos 0))) (0 ∷ 1 ∷ [])
    ∷ travel_in (open_place ∷ passed_place ∷ []) None (0 ∷ 1 ∷ []) ∷ [] ≡ 1000 ∷ 1044 ∷ []
unfolding length_of square_of whole_root
known_travels = refl

-- Three places on a line, the second of which is the farthest.
abbrev at_x : ℕ → Visit
at_x n = record { first = point (pos n) (pos 0); others = []; leaves = None }

abbrev line_places : List Visit
line_places = at_x 10 ∷ at_x 90 ∷ at_x 20 ∷ []

-- Each order takes one place after another from those that are left.
pub known_order : IsOrderOf (0 ∷ 1 ∷ 2 ∷ []) (0 ∷ 2 ∷ 1 ∷ [])
known_order = (0, refl, (1, refl, (0, refl, refl)))

-- The given order is no near one, since another has less travel.
pub given_is_no_near_order : IsNearOrder line_places (Some (point (pos 0) (pos 0))) (0 ∷ 1 ∷ 2 ∷ []) → ⊥
unfolding length_of square_of whole_root
given_is_no_near_order is = omega (arith, is.least (omega arith) (0 ∷ 2 ∷ 1 ∷ []) known_order)

-- An order with more travel than the given one is none, however many places there are.
pub longer_is_no_near_order : IsNearOrder (at_x 10 ∷ at_x 20 ∷ []) (Some (point (pos 0) (pos 0))) (1 ∷ 0 ∷ []) → ⊥
unfolding length_of square_of whole_root
longer_is_no_near_order is = omega (arith, is.no_more)

-- An order without one of the places is none.
pub shorter_is_no_near_order : IsNearOrder line_places None (0 ∷ 2 ∷ []) → ⊥
shorter_is_no_near_order is = omega (arith, length_permutation (0 ∷ 1 ∷ 2 ∷ []) (0 ∷ 2 ∷ []) is.each)
