-- Worked values of the first fault of a walk.
use Rattle.std.proofs.Common.{◌≡◌, ℕ, pos, true, false, List, [], ◌∷◌, Option, Some, None, refl}
use Rattle.odd_cuts.proofs.Names.{Point, Edge, Pass, PieceValue, is_fitting_walk, walk_cost, walk_fault}
use Rattle.odd_cuts.specs.declared.faults.WalkFault.TheVariants as fault

abbrev pub corner : ℕ → ℕ → Point
corner x y = record { x = pos x; y = pos y }

abbrev pub edge : (a b cost : ℕ) → Edge
edge a b cost = record { a = a; b = b; cost = cost }

abbrev pub corners : List Point
corners = corner 0 0 ∷ corner 30 0 ∷ corner 30 30 ∷ corner 0 30 ∷ []

-- the lines 1, 3 and 6 from one junction, the last of them towards it
abbrev pub star : (start end : Option ℕ) → PieceValue
star start end = record {
  block = 0;
  lines = 0 ∷ 2 ∷ 5 ∷ [];
  junctions = corners;
  edges = edge 0 1 2 ∷ edge 0 2 3 ∷ edge 3 0 1 ∷ [];
  degrees = 3 ∷ 1 ∷ 1 ∷ 1 ∷ [];
  start = start;
  end = end;
}

abbrev pub closed : PieceValue
closed = star None None

abbrev forth : ℕ → Pass
forth line = record { line = line; back = false }

abbrev back : ℕ → Pass
back line = record { line = line; back = true }

-- forth and back on each line costs twice the lines
abbrev all_twice : List Pass
all_twice = forth 0 ∷ back 0 ∷ forth 2 ∷ back 2 ∷ back 5 ∷ forth 5 ∷ []

pub known_right : (walk_fault closed all_twice ≡ None)
    × (walk_cost closed all_twice ≡ 12)
    × (is_fitting_walk closed all_twice ≡ true)
known_right = (refl, refl, refl)

-- no line of the drawing but of the piece: the second line is none of it
pub known_walk_fault : (walk_fault closed (forth 0 ∷ back 0 ∷ forth 1 ∷ []) ≡ Some (fault.Stranger 3))
    × (walk_fault closed (forth 1 ∷ forth 2 ∷ []) ≡ Some (fault.Stranger 1))
    -- the line towards the middle is passed forth where it is to be passed back
    × (walk_fault closed (forth 0 ∷ back 0 ∷ forth 2 ∷ back 2 ∷ forth 5 ∷ back 5 ∷ []) ≡ Some (fault.Broken 5))
    -- the first pass with a fault is reported, and of one pass that it is along no line
    × (walk_fault closed (forth 0 ∷ forth 2 ∷ forth 1 ∷ []) ≡ Some (fault.Broken 2))
    × (walk_fault closed (forth 0 ∷ forth 1 ∷ forth 2 ∷ []) ≡ Some (fault.Stranger 2))
    -- the last pass is missing, so the walk is open, though each line is passed
    × (walk_fault closed (forth 0 ∷ back 0 ∷ forth 2 ∷ back 2 ∷ back 5 ∷ []) ≡ Some fault.Open)
known_walk_fault = (refl, refl, refl, refl, refl, refl)

pub known_no_fit : is_fitting_walk closed (forth 0 ∷ back 0 ∷ forth 2 ∷ back 2 ∷ back 5 ∷ []) ≡ false
known_no_fit = refl

pub known_empty : (walk_fault closed [] ≡ Some fault.Open)
    -- the first line that isn't passed, by its number in the drawing
    × (walk_fault closed (back 5 ∷ forth 5 ∷ []) ≡ Some (fault.Missing 1))
    × (walk_fault closed (forth 0 ∷ back 0 ∷ forth 2 ∷ back 2 ∷ []) ≡ Some (fault.Missing 6))
    -- an open walk that omits a line is reported as open
    × (walk_fault closed (forth 0 ∷ []) ≡ Some fault.Open)
known_empty = (refl, refl, refl, refl)

-- from the end of one line to that of another
abbrev way : List Pass
way = back 0 ∷ forth 2 ∷ back 2 ∷ back 5 ∷ []

pub known_way : (walk_fault (star (Some 1) (Some 3)) way ≡ None)
    × (walk_fault (star (Some 3) (Some 1)) way ≡ Some fault.WrongStart)
    × (walk_fault (star (Some 1) (Some 2)) way ≡ Some fault.WrongEnd)
known_way = (refl, refl, refl)

-- the passes are judged before the ends
pub known_passes_first : (walk_fault (star (Some 3) (Some 1)) (back 0 ∷ forth 1 ∷ []) ≡ Some (fault.Stranger 2))
    × (walk_fault (star (Some 3) (Some 1)) (back 0 ∷ back 0 ∷ []) ≡ Some (fault.Broken 2))
    × (walk_fault (star (Some 3) (Some 1)) (forth 1 ∷ []) ≡ Some (fault.Stranger 1))
known_passes_first = (refl, refl, refl)

-- the start is judged before the end
pub known_start_first : (walk_fault (star (Some 3) (Some 3)) (back 0 ∷ forth 2 ∷ []) ≡ Some fault.WrongStart)
    -- a single required junction is both start and end
    × (walk_fault (star None (Some 1)) way ≡ Some fault.WrongEnd)
    × (walk_fault (star (Some 0) None) all_twice ≡ None)
    × (walk_fault (star (Some 0) None) [] ≡ Some fault.WrongStart)
    -- a wrong end is reported before a missing line
    × (walk_fault (star (Some 0) (Some 2)) (forth 0 ∷ []) ≡ Some fault.WrongEnd)
known_start_first = (refl, refl, refl, refl, refl)
