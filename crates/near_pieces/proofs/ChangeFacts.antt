-- Worked values of changes of an order, and orders that are refuted since a change has less travel.
use Rattle.std.proofs.Common.{◌≡◌, ◌≤◌, ◌+◌, ℕ, pos, List, [], ◌∷◌, ◌++◌, Some, None, length, map, reverse, refl, arith}
use Rattle.near_pieces.proofs.Names.{IsNearOrder, Point, Visit, travel_in}
use Rattle.design_model.specs.Lengths.{length_of, square_of, whole_root}
use Rattle.near_pieces.specs.Changes.{moved_in, reversed_in}
use Rattle.near_pieces.specs.OrderChanges.{IsSettled, most_changed}
use Rattle.near_pieces.specs.Stops.{needle_through, stops_in, way_from}
use Rattle.near_pieces.specs.declared.local_search.TheConstants.{MAX_CHANGED, MAX_WHOLE}
use Rattle.near_pieces.specs.declared.ordering.TheConstants.{MAX_TRIED}

pub known_limits : MAX_TRIED ∷ MAX_WHOLE ∷ MAX_CHANGED ∷ [] ≡ 8 ∷ 128 ∷ 32 ∷ []
known_limits = refl

-- A change may be about all of 128 places, and about 32 of more.
pub known_most : map most_changed (0 ∷ 9 ∷ 128 ∷ 129 ∷ 1024 ∷ []) ≡ 0 ∷ 9 ∷ 128 ∷ 32 ∷ 32 ∷ []
known_most = refl

-- The run from index 1 to 3 is moved past the next one, or reversed.
pub known_moved : moved_in (10 ∷ 11 ∷ 12 ∷ 13 ∷ 14 ∷ 15 ∷ []) 1 3 4 ∷ moved_in (10 ∷ 11 ∷ 12 ∷ 13 ∷ 14 ∷ 15 ∷ []) 0 1 6
    ∷ reversed_in (10 ∷ 11 ∷ 12 ∷ 13 ∷ 14 ∷ 15 ∷ []) 1 4 ∷ [] ≡ (10 ∷ 13 ∷ 11 ∷ 12 ∷ 14 ∷ 15 ∷ [])
    ∷ (11 ∷ 12 ∷ 13 ∷ 14 ∷ 15 ∷ 10 ∷ []) ∷ (10 ∷ 13 ∷ 12 ∷ 11 ∷ 14 ∷ 15 ∷ []) ∷ []
known_moved = refl

-- Places on a slanted line, 5 mm from one to the next, the farthest but one of which is the second.
abbrev at : (x y : ℕ) → Visit
at x y = record { first = record { x = pos x; y = pos y }; others = []; leaves = None }

abbrev slanted : List Visit
slanted = at 0 0 ∷ at 60 80 ∷ at 30 40 ∷ at 90 120 ∷ []

-- 10, 5 and 10 mm in the given order, and 5, 5 and 5 mm in another.
pub known_slanted : travel_in slanted None (0 ∷ 1 ∷ 2 ∷ 3 ∷ []) ∷ travel_in slanted None (0 ∷ 2 ∷ 1 ∷ 3 ∷ []) ∷ [] ≡ 25000 ∷ 15000 ∷ []
unfolding length_of square_of whole_root
known_slanted = refl

-- The given order isn't settled: its second place may be moved past the third, and the run of both may be reversed.
pub refuted_move : IsSettled slanted None (0 ∷ 1 ∷ 2 ∷ 3 ∷ []) → ⊥
unfolding length_of square_of whole_root
refuted_move is = omega (arith, is.moved (0 ∷ []) (1 ∷ []) (2 ∷ []) (3 ∷ []) refl (omega arith))

pub refuted_reversal : IsSettled slanted None (0 ∷ 1 ∷ 2 ∷ 3 ∷ []) → ⊥
unfolding length_of square_of whole_root
refuted_reversal is = omega (arith, is.reversed (0 ∷ []) (1 ∷ 2 ∷ []) (3 ∷ []) refl (omega arith))

-- Of nine places an order with a move that helps is no near one.
abbrev nine : List Visit
nine = at 0 0 ∷ at 60 80 ∷ at 30 40 ∷ at 90 120 ∷ at 90 121 ∷ at 90 122 ∷ at 90 123 ∷ at 90 124 ∷ at 90 125 ∷ []

pub refuted_near_order : IsNearOrder nine None (0 ∷ 1 ∷ 2 ∷ 3 ∷ 4 ∷ 5 ∷ 6 ∷ 7 ∷ 8 ∷ []) → ⊥
unfolding length_of square_of whole_root
refuted_near_order is =
    omega (arith, (is.settled (omega arith)).moved (0 ∷ []) (1 ∷ []) (2 ∷ []) (3 ∷ 4 ∷ 5 ∷ 6 ∷ 7 ∷ 8 ∷ []) refl (omega arith))

-- A run of any length is moved past any other, and reversed, as far as both are short enough together.
pub settled_moves : (visits : List Visit) (before run other after : List ℕ) → IsSettled visits None (before ++ (run ++ (other ++ after)))
    → length run + length other ≤ most_changed (length (before ++ (run ++ (other ++ after))))
    → travel_in visits None (before ++ (run ++ (other ++ after))) ≤ travel_in visits None (before ++ (other ++ (run ++ after)))
settled_moves visits before run other after is = is.moved before run other after refl

pub settled_reversals : (visits : List Visit) (before run after : List ℕ) → IsSettled visits None (before ++ (run ++ after))
    → length run ≤ most_changed (length (before ++ (run ++ after)))
    → travel_in visits None (before ++ (run ++ after)) ≤ travel_in visits None (before ++ (reverse run ++ after))
settled_reversals visits before run after is = is.reversed before run after refl

-- Three places from (3, 4): one with two points, one that is left elsewhere, and one more with two.
abbrev three : List Visit
three = record { first = record { x = pos 0; y = pos 0 }; others = record { x = pos 6; y = pos 8 } ∷ []; leaves = None }
    ∷ record { first = record { x = pos 30; y = pos 40 }; others = []; leaves = Some (record { x = pos 0; y = pos 40 }) }
    ∷ record { first = record { x = pos 3; y = pos 44 }; others = record { x = pos 9; y = pos 9 } ∷ []; leaves = None } ∷ []

abbrev point : (x y : ℕ) → Point
point x y = record { x = pos x; y = pos y }

-- The first is 0.5 mm away at its first point, the second 5 mm from there, and the third 0.5 mm from where that is left.
pub known_stops : stops_in three (Some (point 3 4)) 700 (0 ∷ 1 ∷ 2 ∷ []) ≡ record {
  place = 0;
  from = Some (point 3 4);
  enters = point 0 0;
  leaves = point 0 0;
  way = 500;
  travel = 1200;
} ∷ record {
  place = 1;
  from = Some (point 0 0);
  enters = point 30 40;
  leaves = point 0 40;
  way = 5000;
  travel = 6200;
} ∷ record {
  place = 2;
  from = Some (point 0 40);
  enters = point 3 44;
  leaves = point 3 44;
  way = 500;
  travel = 6700;
} ∷ []
unfolding length_of square_of whole_root
known_stops = refl

pub known_needle : needle_through three (Some (point 3 4)) (0 ∷ 1 ∷ []) ≡ Some (point 0 40)
unfolding square_of
known_needle = refl

pub known_ways : way_from None (point 30 40) ∷ way_from (Some (point 3 4)) (point 33 44) ∷ [] ≡ 0 ∷ 5000 ∷ []
unfolding length_of square_of whole_root
known_ways = refl
