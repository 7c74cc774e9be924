-- Worked values of copies and tours.
use Rattle.std.proofs.Common.{◌≡◌, ◌<◌, ◌+◌, ◌*◌, ◌%◌, ◌==◌, ℕ, zero, suc, Bool, true, false, List, [], ◌∷◌, Option, None, Some, arith, get_or, pos, refl}
use Rattle.euler_tour.proofs.Names.{Edge, Pass, PieceValue, one_if, is_walk_start_to_end, passes, CanPass, IsTour, copies_cost, pass_count, pass_ends}
use Rattle.design_model.specs.declared.point.Point.{Point}

abbrev pub edge : (a b cost : ℕ) → Edge
edge a b cost = record { a = a; b = b; cost = cost }

-- three lines from one junction to another
abbrev pub lens : List Edge
lens = edge 0 1 1 ∷ edge 0 1 2 ∷ edge 0 1 5 ∷ []

abbrev pub at : ℕ → Point
at x = record { x = pos x; y = pos 0 }

-- the piece of these lines, between a start and an end
abbrev pub between : (start end : Option ℕ) → PieceValue
between start end = record {
  block = 0;
  lines = 0 ∷ 1 ∷ 2 ∷ [];
  junctions = at 0 ∷ at 10 ∷ [];
  edges = lens;
  degrees = 3 ∷ 3 ∷ [];
  start = start;
  end = end;
}

abbrev pub closed : PieceValue
closed = between None None

abbrev pub forth : ℕ → Pass
forth line = record { line = line; back = false }

abbrev pub back : ℕ → Pass
back line = record { line = line; back = true }

-- a copy of the first line, and copies of the others
abbrev pub first_again : List ℕ
first_again = 1 ∷ 0 ∷ 0 ∷ []

abbrev pub others_again : List ℕ
others_again = 0 ∷ 3 ∷ 2 ∷ []

abbrev pub none_again : List ℕ
none_again = 0 ∷ 0 ∷ 0 ∷ []

-- four ends of passes are at each of the two junctions: two of the first line's passes, one of each other's
pub known_pass_ends : (pass_ends lens first_again 0 ≡ 4)
    × (pass_ends lens first_again 1 ≡ 4)
    × (pass_ends lens first_again 2 ≡ 0)
    × (pass_ends lens others_again 1 ≡ 8)
    -- a line that ends where it begins has two ends there
    × (pass_ends (edge 0 1 1 ∷ edge 1 1 3 ∷ []) (0 ∷ 1 ∷ []) 1 ≡ 5)
known_pass_ends = (refl, refl, refl, refl, refl)

-- copies alone, and not each line's first pass
pub known_copies_cost : (copies_cost lens first_again ≡ 1)
    × (copies_cost lens others_again ≡ 16)
known_copies_cost = (refl, refl)

pub known_pass_count : (pass_count first_again ≡ 4)
    × (pass_count others_again ≡ 8)
known_pass_count = (refl, refl)

-- a closed walk can pass the lines so often, and these four passes are one
pub known_can : CanPass closed first_again
known_can = record {
  beside = refl;
  even = λ j. four (one_if (0 == j)) (one_if (1 == j));
  few = omega arith;
}
  where
    four : (x y : ℕ) → (0 + ((1 + 1) * (x + y) + ((0 + 1) * (x + y) + ((0 + 1) * (x + y) + 0)))) % 2 ≡ 0
    four x y = omega arith

pub known_tour : IsTour closed first_again (forth 0 ∷ back 1 ∷ forth 2 ∷ back 0 ∷ [])
known_tour = record {
  led = refl;
  covered = refl;
  counts = each;
  begins = λ none. refl;
  costs = refl;
  long = refl;
}
  where
    each : (k : ℕ) → k < 3 → passes (get_or closed.lines k 0) (forth 0 ∷ back 1 ∷ forth 2 ∷ back 0 ∷ []) ≡ get_or first_again k 0 + 1
    each zero below = refl
    each (suc zero) below = refl
    each (suc (suc zero)) below = refl
    each (suc (suc (suc k))) below = absurd (omega arith)

-- the line back from the end to the start counts with the others: each line once can be passed from one to the other
pub known_can_between : CanPass (between (Some 0) (Some 1)) none_again
known_can_between = record {
  beside = refl;
  even = λ j. four (one_if (0 == j)) (one_if (1 == j));
  few = omega arith;
}
  where
    four : (x y : ℕ) → (((y + x) + 0) + ((0 + 1) * (x + y) + ((0 + 1) * (x + y) + ((0 + 1) * (x + y) + 0)))) % 2 ≡ 0
    four x y = omega arith

pub known_cannot_between : CanPass (between (Some 0) (Some 1)) first_again → ⊥
known_cannot_between can = odd _ refl (can.even 0)
  where
    odd : (n : ℕ) → n ≡ 1 → n ≡ 0 → ⊥
    odd n one none = omega (arith, one, none)

-- each line once is no closed walk, but it is one from one junction to the other
pub known_cannot : CanPass closed none_again → ⊥
known_cannot can = odd _ refl (can.even 0)
  where
    odd : (n : ℕ) → n ≡ 1 → n ≡ 0 → ⊥
    odd n one none = omega (arith, one, none)

pub known_is_walk_start_to_end : (is_walk_start_to_end closed (forth 0 ∷ back 1 ∷ forth 2 ∷ []) ≡ false)
    × (is_walk_start_to_end (between (Some 0) (Some 1)) (forth 0 ∷ back 1 ∷ forth 2 ∷ []) ≡ true)
    × (is_walk_start_to_end (between (Some 1) (Some 0)) (forth 0 ∷ back 1 ∷ forth 2 ∷ []) ≡ false)
    -- a single required junction is both start and end
    × (is_walk_start_to_end (between (Some 1) None) (back 0 ∷ forth 1 ∷ back 2 ∷ forth 0 ∷ []) ≡ true)
    × (is_walk_start_to_end (between None (Some 1)) (forth 0 ∷ back 1 ∷ forth 2 ∷ back 0 ∷ []) ≡ false)
known_is_walk_start_to_end = (refl, refl, refl, refl, refl)

-- a tour passes each line the given number of times, and begins with the first line, forwards
pub known_no_tour : IsTour closed first_again (forth 0 ∷ back 2 ∷ forth 2 ∷ back 1 ∷ []) → ⊥
known_no_tour tour = once _ refl (tour.counts 0 (omega arith))
  where
    once : (n : ℕ) → n ≡ 1 → n ≡ 2 → ⊥
    once n one two = omega (arith, one, two)

pub known_no_begin : IsTour closed first_again (back 0 ∷ forth 1 ∷ back 2 ∷ forth 0 ∷ []) → ⊥
known_no_begin tour = turned (tour.begins refl)
  where
    turned : back 0 ≡ forth 0 → ⊥
    turned is = cc

pub known_no_first : IsTour closed first_again (forth 1 ∷ back 0 ∷ forth 2 ∷ back 0 ∷ []) → ⊥
known_no_first tour = other (tour.begins refl)
  where
    other : forth 1 ≡ forth 0 → ⊥
    other is = cc

pub known_no_way : IsTour closed none_again (forth 0 ∷ back 1 ∷ forth 2 ∷ []) → ⊥
known_no_way tour = astray _ refl tour.led
  where
    astray : (b : Bool) → b ≡ false → b ≡ true → ⊥
    astray b one other = cc
