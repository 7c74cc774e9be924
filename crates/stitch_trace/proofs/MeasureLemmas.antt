-- The greatest size of links.
use Rattle.std.proofs.Common.{◌≡◌, ℕ, ◌≤◌, ◌==◌, ◌-ℤ◌, unsigned_abs, max, Bool, true, false, cond, List, [], ◌∷◌, fold, map, Option, Some, None, Result, Ok, Err, ◌∙◌, refl, arith}
use Rattle.std.specs.Ordering.{int_eq}
use Rattle.stitch_trace.proofs.Names.{le-max_right, nat_tests, Act, NumberedAct, Point, needle_point, is_same_point, Link, NeedleMove, Stay, Gap, Sewn, TraceFault, first_too_long, link_size, links_in, longest, move_to_act, needle_moves_of, needle_moves_from, trace_step, step_or_fault, max_size_after, le-max_left, Decides-int_eq, both_ways, move_between, move_size, no_difference}
use Rattle.design_model.specs.declared.act.Act.TheVariants as act
use Rattle.stitch_trace.specs.declared.trace_fault.TraceFault.TheVariants as fault

-- points that aren't found to be the same are apart
pub size_apart : (p q : Point) → is_same_point p q ≡ false → 1 ≤ move_size (move_between p q)
size_apart p q differ =
    let across = le-max_left (unsigned_abs (q.x -ℤ p.x)) (unsigned_abs (q.y -ℤ p.y)) in
    let not_none : move_size (move_between p q) ≤ 0 → ⊥ = λ none.
    let x : int_eq p.x q.x ≡ true = (Decides-int_eq p.x q.x).1 (no_difference p.x q.x (omega arith)) in
    let y : int_eq p.y q.y ≡ true = (Decides-int_eq p.y q.y).1 (no_difference p.y q.y (omega arith)) in
    both_ways (is_same_point p q) differ (rw (x, y) refl) in
    omega (arith, not_none, le-max_right (unsigned_abs (q.x -ℤ p.x)) (unsigned_abs (q.y -ℤ p.y)))

-- the greatest size, from one on
abbrev pub greatest : ℕ → List Link → ℕ
greatest longest links = fold max longest (map link_size links)

pub greatest_more : (longest : ℕ) (links : List Link) → longest ≤ greatest longest links
greatest_more longest [] = omega arith
greatest_more longest (link ∷ rest) =
    omega (arith, le-max_left longest (link_size link), greatest_more (max longest (link_size link)) rest)

-- the result of measuring
abbrev comes_to : ℕ → Option ℕ → List Link → Result ℕ TraceFault
comes_to longest (Some number) links = Err (fault.LinkTooLong number)
comes_to longest None links = cond (greatest longest links == 0) (Err fault.NoLinks) (Ok (greatest longest links))

measured_to : (longest : ℕ) (moves : List NeedleMove)
    → max_size_after longest moves ≡ comes_to longest (first_too_long moves) (links_in moves)
measured_to longest [] = refl
measured_to longest (Stay ∷ rest) = measured_to longest rest
measured_to longest (Gap ∷ rest) = measured_to longest rest
measured_to longest (Sewn number link ∷ rest) = grind (arith, nat_tests, measured_to (max longest (link_size link)) rest)

-- the first of the links, if there is one, has a size
abbrev pub FirstHasSize : List Link → Type 0
FirstHasSize [] = Unit {0}
FirstHasSize (link ∷ rest) = 1 ≤ link_size link

after_link : (p q : Point) (number : ℕ) (later : List NeedleMove) → FirstHasSize (links_in later) → (t : Bool) → is_same_point p q ≡ t
    → (float : Bool) → FirstHasSize (links_in (cond t Stay (cond float Gap (Sewn number (record { from = p; to = q }))) ∷ later))
after_link p q number later first true same float = first
after_link p q number later first false same true = first
after_link p q number later first false same false = size_apart p q same

after_act : (p : Point) (number : ℕ) (what : Act) (later : List NeedleMove) → FirstHasSize (links_in later)
    → FirstHasSize (links_in (move_to_act (Some p) number what ∷ later))
after_act p number act.Trim later first = first
after_act p number act.Stop later first = first
after_act p number (act.Needle q float) later first = after_link p q number later first (is_same_point p q) refl float

pub first_has_size : (before : Option Point) (acts : List NumberedAct) → FirstHasSize (links_in (needle_moves_from before acts))
first_has_size before [] = tt
first_has_size None (a ∷ rest) = first_has_size (needle_point a) rest
first_has_size (Some p) (a ∷ rest) =
    after_act p a.number a.act (needle_moves_from (needle_point a) rest) (first_has_size (needle_point a) rest)

past_is : (found : Option ℕ) (links : List Link) → FirstHasSize links → comes_to 0 found links ≡ step_or_fault found links
past_is (Some number) links first = refl
past_is None [] first = refl
past_is None (link ∷ rest) first = grind (arith, nat_tests, le-max_right 0 (link_size link), greatest_more (max 0 (link_size link)) rest)

-- measuring acts returns the step
pub step_is : (acts : List NumberedAct) → max_size_after 0 (needle_moves_of acts) ≡ trace_step (needle_moves_of acts)
step_is acts =
    measured_to 0 (needle_moves_of acts)
    ∙ past_is (first_too_long (needle_moves_of acts)) (links_in (needle_moves_of acts)) (first_has_size None acts)
