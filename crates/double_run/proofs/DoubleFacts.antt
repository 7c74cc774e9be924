-- Worked values of double walks.
use Rattle.std.proofs.Common.{◌≡◌, ℕ, List, [], ◌∷◌, Option, None, Some, true, false, arith, pos, refl}
use Rattle.double_run.proofs.Names.{All-get_or, Edge, Pass, PieceValue, is_fitting_walk, walk_cost, IsPassedBothWays, IsDouble, same_way, directed_passes, without_ends, All-cons, All-nil}
use Rattle.design_model.specs.declared.point.Point.{Point}

abbrev pub edge : (a b cost : ℕ) → Edge
edge a b cost = record { a = a; b = b; cost = cost }

abbrev pub at : ℕ → Point
at x = record { x = pos x; y = pos 0 }

-- line 4 from one junction to the next, line 6 on to a third, and line 9, which ends there where it begins
abbrev tail : PieceValue
tail = record {
  block = 0;
  lines = 4 ∷ 6 ∷ 9 ∷ [];
  junctions = at 0 ∷ at 10 ∷ at 20 ∷ [];
  edges = edge 0 1 1 ∷ edge 2 1 3 ∷ edge 2 2 8 ∷ [];
  degrees = 1 ∷ 2 ∷ 3 ∷ [];
  start = None;
  end = None;
}

abbrev pub forth : ℕ → Pass
forth line = record { line = line; back = false }

abbrev pub back : ℕ → Pass
back line = record { line = line; back = true }

-- out along all lines, and home again
abbrev there_and_back : List Pass
there_and_back = forth 4 ∷ back 6 ∷ forth 9 ∷ back 9 ∷ forth 6 ∷ back 4 ∷ []

-- passes of another line or in the other direction don't count
pub known_directed_passes : (directed_passes 4 false (forth 4 ∷ back 4 ∷ forth 6 ∷ forth 4 ∷ []) ≡ 2)
    × (directed_passes 4 true (forth 4 ∷ back 4 ∷ back 6 ∷ forth 4 ∷ []) ≡ 1)
known_directed_passes = (refl, refl)

pub known_ways : same_way true false ≡ false
known_ways = refl

pub known_double : IsDouble tail there_and_back
known_double = record {
  closed = refl;
  each = All-cons (IsPassedBothWays there_and_back) 4 (6 ∷ 9 ∷ []) (record { forwards = refl; backwards = refl })
      (All-cons (IsPassedBothWays there_and_back) 6 (9 ∷ []) (record { forwards = refl; backwards = refl })
      (All-cons (IsPassedBothWays there_and_back) 9 [] (record { forwards = refl; backwards = refl })
      (All-nil (IsPassedBothWays there_and_back))));
  begins = refl;
}

-- a required start and end are dropped, and nothing else
pub known_unbound : without_ends (record tail { start = Some 1; end = Some 2 }) ≡ tail
known_unbound = refl

-- it fits, and costs twice the 12 steps of the lines
pub known_fit : (is_fitting_walk (without_ends tail) there_and_back ≡ true)
    × (walk_cost tail there_and_back ≡ 24)
known_fit = (refl, refl)

-- a line that is passed twice forwards makes no double walk
abbrev twice_forwards : List Pass
twice_forwards = forth 4 ∷ back 6 ∷ forth 9 ∷ forth 9 ∷ forth 6 ∷ back 4 ∷ []

pub known_twice : IsDouble tail twice_forwards → ⊥
known_twice double = once _ refl (All-get_or (IsPassedBothWays twice_forwards) tail.lines 2 0 (omega arith) double.each).forwards
  where
    once : (n : ℕ) → n ≡ 2 → n ≡ 1 → ⊥
    once n two one = omega (arith, two, one)

-- a walk that omits a line isn't double
abbrev left_out : List Pass
left_out = forth 4 ∷ back 6 ∷ forth 6 ∷ back 4 ∷ []

pub known_left_out : IsDouble tail left_out → ⊥
known_left_out double = once _ refl (All-get_or (IsPassedBothWays left_out) tail.lines 2 0 (omega arith) double.each).backwards
  where
    once : (n : ℕ) → n ≡ 0 → n ≡ 1 → ⊥
    once n none one = omega (arith, none, one)

-- or begins with another line, or with the first one backwards
pub known_other : IsDouble tail (forth 9 ∷ back 9 ∷ forth 6 ∷ back 4 ∷ forth 4 ∷ back 6 ∷ []) → ⊥
known_other double = other double.begins
  where
    other : forth 9 ≡ forth 4 → ⊥
    other is = cc

pub known_turned : IsDouble tail (back 4 ∷ forth 4 ∷ back 6 ∷ forth 9 ∷ back 9 ∷ forth 6 ∷ []) → ⊥
known_turned double = turned double.begins
  where
    turned : back 4 ≡ forth 4 → ⊥
    turned is = cc

-- or isn't closed: line 4 leads to the end of line 6, not to where it begins
pub known_open : IsDouble tail (forth 4 ∷ forth 6 ∷ forth 9 ∷ back 9 ∷ back 6 ∷ back 4 ∷ []) → ⊥
known_open double = nowhere _ refl double.closed
  where
    nowhere : (at : Option ℕ) → at ≡ None → at ≡ Some 0 → ⊥
    nowhere at none some = cc
