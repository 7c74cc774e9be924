-- Traversals of two lines, 4 from junction 0 to 1 and 7 from 2 to 1: what their states and steps require.
use Rattle.std.proofs.Common.{◌≡◌, ℕ, ◌+◌, ◌*◌, ◌<◌, ◌==◌, Bool, true, false, List, [], ◌∷◌, ◌++◌, Some, None, Ok, length, get_or, refl, arith, subst}
use Rattle.double_run.proofs.Names.{BeginsWith, DirectedLeg, Edge, GoesOut, IsLegFrom, IsTraversal, PieceValue, directed_passes, edge_cost, is_exhausted, is_on_stack, is_visited, leg_pass, legs_are_below, one_if, pass_start, pass_sum, passed_cost, remaining_count, return_walk, root_junction, traversal_rank, walk_end_from}
use Rattle.double_run.specs.Traversals.{edge_at, leg_return}
use Rattle.double_run.specs.TraversalSteps.{ContinuesTraversal, StepsTraversal}
use Rattle.double_run.specs.declared.traversal.Traversal.{Traversal}
use Rattle.double_run.proofs.DoubleFacts.{at, back, edge, forth}

abbrev lines : List ℕ
lines = 4 ∷ 7 ∷ []

abbrev edges : List Edge
edges = edge 0 1 3 ∷ edge 2 1 5 ∷ []

abbrev path : PieceValue
path = record {
  block = 0;
  lines = lines;
  junctions = at 0 ∷ at 3 ∷ at 8 ∷ [];
  edges = edges;
  degrees = 1 ∷ 2 ∷ 1 ∷ [];
  start = None;
  end = None;
}

abbrev leg : ℕ → Bool → DirectedLeg
leg place back = record { place = place; back = back }

-- out along both lines, the second backwards, and home
abbrev out : List DirectedLeg
out = leg 1 true ∷ leg 0 false ∷ []

pub known_return : (leg_pass lines (leg 1 true) ≡ back 7) × (return_walk lines out ≡ back 4 ∷ forth 7 ∷ [])
known_return = (refl, refl)

-- a leg along no line of the piece is one along line 0, and without lines the first junction is 0
pub known_absent : (leg_pass lines (leg 2 false) ≡ forth 0) × (leg_return lines (leg 2 false) ≡ back 0) × (root_junction [] ≡ 0)
    × (edge_at edges 2 ≡ edge 0 0 0)
known_absent = (refl, refl, refl, refl)

-- junctions visited, exhausted and on the stack, where the first line was passed
pub known_junctions : (is_visited (true ∷ false ∷ []) edges 1 ≡ true) × (is_visited (true ∷ false ∷ []) edges 2 ≡ false)
    × (is_exhausted (true ∷ false ∷ []) edges 0 ≡ true) × (is_exhausted (true ∷ false ∷ []) edges 1 ≡ false)
    × (is_on_stack edges (leg 1 true ∷ []) 1 ≡ true) × (is_on_stack edges (leg 1 true ∷ []) 2 ≡ false)
known_junctions = (refl, refl, refl, refl, refl, refl)

pub known_counts : (passed_cost (false ∷ true ∷ []) edges ≡ 5) × (remaining_count (false ∷ true ∷ false ∷ []) ≡ 2)
    × (legs_are_below 2 out ≡ true) × (legs_are_below 1 out ≡ false) × (root_junction edges ≡ 0)
known_counts = (refl, refl, refl, refl, refl)

-- a leg from a junction is along a line there that wasn't passed
pub known_leg : (is : IsLegFrom edges (true ∷ false ∷ []) 1 (leg 1 true)) → Some (edge 2 1 5) ≡ Some is.edge
known_leg is = is.there

pub known_leg_passed : IsLegFrom edges (true ∷ true ∷ []) 1 (leg 1 true) → ⊥
known_leg_passed is = passed is.left
  where
    passed : Some true ≡ Some false → ⊥
    passed same = cc

pub known_leg_away : (is : IsLegFrom edges (true ∷ false ∷ []) 0 (leg 1 true)) → is.edge ≡ edge 2 1 5 → ⊥
known_leg_away is same = other (subst (λ (e : Edge). pass_start e true ≡ 0) same is.starts)
  where
    other : ◌≡◌ {A = ℕ} 1 0 → ⊥
    other one = omega (arith, one)

-- a traversal: the walk leads from the first junction and the return walk home, and both pass each passed line once each way
pub known_traversal : (o : Traversal) → IsTraversal path o
    → (length o.passed.items ≡ 2) × (walk_end_from lines edges (Some 0) o.walk ≡ Some o.at)
    × (walk_end_from lines edges (Some o.at) (return_walk lines o.out.items) ≡ Some 0) × (legs_are_below 2 o.out.items ≡ true)
    × (directed_passes 7 true o.walk + directed_passes 7 true (return_walk lines o.out.items) ≡ one_if (get_or o.passed.items 1 false))
    × (pass_sum lines edges edge_cost o.walk + pass_sum lines edges edge_cost (return_walk lines o.out.items)
    ≡ 2 * passed_cost o.passed.items edges)
    × (is_visited o.passed.items edges 1 ≡ true → (o.at == 1) ≡ false → is_on_stack edges o.out.items 1 ≡ false
    → is_exhausted o.passed.items edges 1 ≡ true)
known_traversal o is =
    (is.keeps.beside, is.keeps.led, is.keeps.home, is.keeps.legs, is.keeps.counted 1 true (omega arith), is.keeps.sums, is.keeps.spent 1)

-- it begins with the first line, which was passed, and its tables fit the piece
pub known_begun : (o : Traversal) → IsTraversal path o → BeginsWith 4 o.walk × (get_or o.passed.items 0 false ≡ true)
    × (length o.ends.last.items ≡ 3) × (length o.ends.before.items ≡ 4) × (o.at < 3)
known_begun o is = (is.begins, is.first, is.ready.last_beside, is.ready.before_beside, is.ready.below)

-- each step continues it and brings it nearer to its end
pub known_step : (old new : Traversal) → StepsTraversal path old new (Ok true)
    → ContinuesTraversal path old new × (traversal_rank new < traversal_rank old)
known_step old new steps = (steps.on, steps.less)

pub known_continued : (old new : Traversal) → ContinuesTraversal path old new
    → (walk_end_from lines edges (Some 0) new.walk ≡ Some new.at) × (new.at < 3) × (BeginsWith 4 old.walk → BeginsWith 4 new.walk)
    × (get_or old.passed.items 0 false ≡ true → get_or new.passed.items 0 false ≡ true)
known_continued old new on = (on.keeps.led, on.ready.below, on.begins, on.first)

-- a step out adds the leg to the walk and marks its line
pub known_out : (old new : Traversal) → GoesOut path old new (leg 1 true)
    → (new.walk ≡ old.walk ++ back 7 ∷ []) × (get_or new.passed.items 1 false ≡ true)
    × ContinuesTraversal path old new × (traversal_rank new < traversal_rank old)
known_out old new goes = (goes.walk, goes.marked, goes.made.on, goes.made.less)

-- at the end the stack is empty, and all lines of the junction were passed
pub known_done : (old new : Traversal) → StepsTraversal path old new (Ok false)
    → ContinuesTraversal path old new × (new.out.items ≡ []) × (is_exhausted new.passed.items edges new.at ≡ true)
known_done old new steps = (steps.on, steps.empty, steps.spent)

pub known_rank : (o : Traversal) → o.passed.items ≡ true ∷ false ∷ false ∷ [] → o.out.items ≡ out → o.ends.last.items ≡ 1 ∷ 3 ∷ 4 ∷ []
    → traversal_rank o ≡ 14
known_rank o passed legs last = rw (passed, legs, last) refl
