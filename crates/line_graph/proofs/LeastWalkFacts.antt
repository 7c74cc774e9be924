-- A walk that costs one step more than another fitting walk isn't least.
use Rattle.std.proofs.Common.{◌≡◌, ℕ, ◌≤◌, true, false, List, [], ◌∷◌, None, Some, ap, refl, arith, true≢false}
use Rattle.line_graph.proofs.Names.{Edge, Pass, PieceValue, BeginsWith, is_fitting_walk, walk_cost, IsLeastWalk}
use Rattle.line_graph.proofs.WalkFacts.{at}

abbrev edge : ℕ → ℕ → ℕ → Edge
edge a b cost = record { a = a; b = b; cost = cost }

abbrev forth : ℕ → Pass
forth line = record { line = line; back = false }

abbrev back : ℕ → Pass
back line = record { line = line; back = true }

-- a stick of one step, and three lines of 1, 2 and 1 steps from its end to where walks start and end
abbrev broom : PieceValue
broom = record {
  block = 0;
  lines = 0 ∷ 1 ∷ 2 ∷ 3 ∷ [];
  junctions = at 0 0 ∷ at 10 0 ∷ at 20 0 ∷ [];
  edges = edge 0 1 1 ∷ edge 1 2 1 ∷ edge 1 2 2 ∷ edge 1 2 1 ∷ [];
  degrees = 1 ∷ 4 ∷ 3 ∷ [];
  start = Some 2;
  end = None;
}

-- the stick forth and back, each of the three lines, and the given one again
abbrev again : ℕ → List Pass
again line = back 1 ∷ back 0 ∷ forth 0 ∷ forth 2 ∷ back 3 ∷ forth line ∷ []

-- the stick and a line of one step are passed twice, or the stick and the line of two steps
pub known_least : (is_fitting_walk broom (again 1) ≡ true) × (walk_cost broom (again 1) ≡ 7)
known_least = (refl, refl)

pub known_longer : (is_fitting_walk broom (again 2) ≡ true) × (walk_cost broom (again 2) ≡ 8)
known_longer = (refl, refl)

-- the walk of 8 steps isn't least; neither walk begins with the first line
pub known_not_least : IsLeastWalk broom (again 2) → ⊥
known_not_least least = more (least (again 1) refl)
  where
    more : 8 ≤ 7 → ⊥
    more is = omega (arith, is)

-- a least walk costs no more than any fitting walk, wherever that begins
pub known_none_less : (p : PieceValue) (walk other : List Pass) → IsLeastWalk p walk → is_fitting_walk p other ≡ true
    → walk_cost p walk ≤ walk_cost p other
known_none_less p walk other least fits = least other fits

-- the empty walk and a walk of another line don't begin with a line, nor does one that goes backwards along it
pub known_begins : BeginsWith 3 (forth 3 ∷ back 3 ∷ [])
known_begins = refl

pub known_other_line : BeginsWith 3 (forth 2 ∷ forth 3 ∷ []) → ⊥
known_other_line begins = other (ap (λ (p : Pass). p.line) begins)
  where
    other : ◌≡◌ {A = ℕ} 2 3 → ⊥
    other is = omega (arith, is)

pub known_backwards : BeginsWith 3 (back 3 ∷ forth 3 ∷ []) → ⊥
known_backwards begins = true≢false (ap (λ (p : Pass). p.back) begins)

pub known_empty : BeginsWith 3 [] → ⊥
known_empty begins = begins
