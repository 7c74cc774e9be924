-- Lemmas on changes of an order: runs that are moved or reversed.
use Rattle.std.proofs.Common.{◌≡◌, ◌∙◌, ◌+◌, ◌-◌, ◌<◌, ◌≤◌, ℕ, Bool, true, false, List, [], ◌∷◌, ◌++◌, ◌||◌, Option, IsPermutation, nat_lt, length, take, drop, reverse, append_assoc, ap, refl, sym, subst, arith}
use Rattle.std.proofs.lemmas.List.{drop-map, length-append, length-reverse, reverse-append, take-append-drop}
use Rattle.std.proofs.lemmas.List.Sorted.{IsPermutation-append_comm, IsPermutation-append_left, IsPermutation-append_right, IsPermutation-reverse}
use Rattle.std.proofs.lemmas.List.{length-drop, length-take-le}
use Rattle.std.proofs.Math.Seq.{drop-append_seam, take-append_seam}
use Rattle.std.specs.List.{take-map}
use Rattle.near_pieces.proofs.Names.{append-nil, nat_tests, Visit, VisitOrder, travel_in}
use Rattle.near_pieces.specs.Changes.{ArePassed, IsLeastFrom, IsLeastUpTo, IsStep, moved_in, reversed_in}
use Rattle.near_pieces.specs.OrderChanges.{IsSettled, most_changed}
use Rattle.near_pieces.specs.Stops.{places}
use Rattle.near_pieces.specs.declared.stop.Stop.{Stop}
use Rattle.near_pieces.specs.declared.tracks.Tracks.{Tracks}
use Rattle.design_model.specs.declared.point.Point.{Point}

-- An order as the runs between indexes.
pub four_runs : (order : List ℕ) (i j k : ℕ) → order ≡ take i (take j (take k order))
    ++ (drop i (take j (take k order)) ++ (drop j (take k order) ++ drop k order))
four_runs order i j k =
    let a = take i (take j (take k order)) in
    let b = drop i (take j (take k order)) in
    let c = drop j (take k order) in
    let d = drop k order in
    let inner : a ++ b ≡ take j (take k order) = take-append-drop i (take j (take k order)) in
    let middle : (a ++ b) ++ c ≡ take k order = ap (λ (l : List ℕ). l ++ c) inner ∙ take-append-drop j (take k order) in
    let outer : ((a ++ b) ++ c) ++ d ≡ order = ap (λ (l : List ℕ). l ++ d) middle ∙ take-append-drop k order in
    sym outer ∙ append_assoc (a ++ b) c d ∙ append_assoc a b (c ++ d)

pub three_runs : (order : List ℕ) (i j : ℕ) → order ≡ take i (take j order) ++ (drop i (take j order) ++ drop j order)
three_runs order i j =
    let a = take i (take j order) in
    let b = drop i (take j order) in
    let c = drop j order in
    let outer : (a ++ b) ++ c ≡ order =
    ap (λ (l : List ℕ). l ++ c) (take-append-drop i (take j order)) ∙ take-append-drop j order in
    sym outer ∙ append_assoc a b c

-- A moved run leaves the places.
pub moved_keeps_places : (order : List ℕ) (i j k : ℕ) → IsPermutation order (moved_in order i j k)
moved_keeps_places order i j k =
    let a = take i (take j (take k order)) in
    let b = drop i (take j (take k order)) in
    let c = drop j (take k order) in
    let d = drop k order in
    let turned : IsPermutation (b ++ (c ++ d)) (c ++ (b ++ d)) =
    subst (λ (l : List ℕ). IsPermutation l (c ++ (b ++ d))) (append_assoc b c d)
    (subst (λ (l : List ℕ). IsPermutation ((b ++ c) ++ d) l) (append_assoc c b d)
    (IsPermutation-append_left d (b ++ c) (c ++ b) (IsPermutation-append_comm b c))) in
    subst (λ (l : List ℕ). IsPermutation l (moved_in order i j k)) (sym (four_runs order i j k))
    (IsPermutation-append_right a (b ++ (c ++ d)) (c ++ (b ++ d)) turned)

-- The middle of three runs as it is in the reversed order.
pub middle_reversed : (order a b c : List ℕ) (i j : ℕ) → order ≡ a ++ (b ++ c) → length a ≡ i → length a + length b ≡ j
    → drop (length order - j) (take (length order - i) (reverse order)) ≡ reverse b
middle_reversed order a b c i j is i_is j_is =
    let turned : reverse order ≡ (reverse c ++ reverse b) ++ reverse a =
    ap reverse is ∙ reverse-append a (b ++ c) ∙ ap (λ (l : List ℕ). l ++ reverse a) (reverse-append b c) in
    let count : length order ≡ length a + (length b + length c) =
    ap length is ∙ length-append a (b ++ c) ∙ ap (λ (n : ℕ). length a + n) (length-append b c) in
    let first : length order - i ≡ length (reverse c ++ reverse b) =
    omega (arith, count, i_is, length-append (reverse c) (reverse b), length-reverse c, length-reverse b) in
    let second : length order - j ≡ length (reverse c) = omega (arith, count, j_is, length-reverse c) in
    let front : take (length order - i) (reverse order) ≡ reverse c ++ reverse b =
    ap (λ (n : ℕ). take n (reverse order)) first ∙ ap (take (length (reverse c ++ reverse b))) turned
    ∙ take-append_seam (reverse c ++ reverse b) (reverse a) in
    ap (λ (n : ℕ). drop n (take (length order - i) (reverse order))) second ∙ ap (drop (length (reverse c))) front
    ∙ drop-append_seam (reverse c) (reverse b)

-- The first runs by their lengths.
pub first_run : (a rest : List ℕ) (i : ℕ) → length a ≡ i → (take i (a ++ rest) ≡ a) × (drop i (a ++ rest) ≡ rest)
first_run a rest i is = (
  subst (λ (n : ℕ). take n (a ++ rest) ≡ a) is (take-append_seam a rest),
  subst (λ (n : ℕ). drop n (a ++ rest) ≡ rest) is (drop-append_seam a rest),
)

-- An order of three runs with the middle one reversed.
pub reversed_of : (order a b c : List ℕ) (i j : ℕ) → order ≡ a ++ (b ++ c) → length a ≡ i → length a + length b ≡ j
    → reversed_in order i j ≡ a ++ (reverse b ++ c)
reversed_of order a b c i j is i_is j_is =
    let joined : order ≡ (a ++ b) ++ c = is ∙ sym (append_assoc a b c) in
    let long : length (a ++ b) ≡ j = length-append a b ∙ j_is in
    let front : take j order ≡ a ++ b = ap (take j) joined ∙ (first_run (a ++ b) c j long).0 in
    let before : take i (take j order) ≡ a = ap (take i) front ∙ (first_run a b i i_is).0 in
    let last : drop j order ≡ c = ap (drop j) joined ∙ (first_run (a ++ b) c j long).1 in
    let run = middle_reversed order a b c i j is i_is j_is in
    ap (λ (l : List ℕ). l ++ (drop (length order - j) (take (length order - i) (reverse order)) ++ drop j order)) before
    ∙ ap (λ (l : List ℕ). a ++ (l ++ drop j order)) run ∙ ap (λ (l : List ℕ). a ++ (reverse b ++ l)) last

-- An order of four runs with the second one moved past the third.
pub moved_of : (order a b c d : List ℕ) (i j k : ℕ) → order ≡ a ++ (b ++ (c ++ d)) → length a ≡ i → length a + length b ≡ j
    → length a + length b + length c ≡ k → moved_in order i j k ≡ a ++ (c ++ (b ++ d))
moved_of order a b c d i j k is i_is j_is k_is =
    let joined : order ≡ ((a ++ b) ++ c) ++ d = is ∙ sym (append_assoc a b (c ++ d)) ∙ sym (append_assoc (a ++ b) c d) in
    let longer : length ((a ++ b) ++ c) ≡ k = omega (arith, length-append (a ++ b) c, length-append a b, k_is) in
    let long : length (a ++ b) ≡ j = length-append a b ∙ j_is in
    let whole : take k order ≡ (a ++ b) ++ c = ap (take k) joined ∙ (first_run ((a ++ b) ++ c) d k longer).0 in
    let last : drop k order ≡ d = ap (drop k) joined ∙ (first_run ((a ++ b) ++ c) d k longer).1 in
    let front : take j (take k order) ≡ a ++ b = ap (take j) whole ∙ (first_run (a ++ b) c j long).0 in
    let other : drop j (take k order) ≡ c = ap (drop j) whole ∙ (first_run (a ++ b) c j long).1 in
    let before : take i (take j (take k order)) ≡ a = ap (take i) front ∙ (first_run a b i i_is).0 in
    let run : drop i (take j (take k order)) ≡ b = ap (drop i) front ∙ (first_run a b i i_is).1 in
    ap (λ (l : List ℕ). l ++ (drop j (take k order) ++ (drop i (take j (take k order)) ++ drop k order))) before
    ∙ ap (λ (l : List ℕ). a ++ (l ++ (drop i (take j (take k order)) ++ drop k order))) other
    ∙ ap (λ (l : List ℕ). a ++ (c ++ (l ++ drop k order))) run ∙ ap (λ (l : List ℕ). a ++ (c ++ (b ++ l))) last

-- A reversed run leaves the places.
pub reversed_keeps_places : (order : List ℕ) (i j : ℕ) → i ≤ j → j ≤ length order → IsPermutation order (reversed_in order i j)
reversed_keeps_places order i j before_j within =
    let a = take i (take j order) in
    let b = drop i (take j order) in
    let c = drop j order in
    let runs = three_runs order i j in
    let front : length (take j order) ≡ j = length-take-le j order within in
    let first : length a ≡ i = length-take-le i (take j order) (omega (arith, front, before_j)) in
    let long : length a + length b ≡ j = omega (arith, front, first, length-drop i (take j order), before_j) in
    let turned : reversed_in order i j ≡ a ++ (reverse b ++ c) = reversed_of order a b c i j runs first long in
    subst (λ (l : List ℕ). IsPermutation order l) (sym turned)
    (subst (λ (l : List ℕ). IsPermutation l (a ++ (reverse b ++ c))) (sym runs)
    (IsPermutation-append_right a (b ++ c) (reverse b ++ c) (IsPermutation-append_left c b (reverse b) (IsPermutation-reverse b))))

-- The places of runs of stops are the runs of their places.
pub moved_places : (stops : List Stop) (order : List ℕ) (i j k : ℕ) → places stops ≡ order
    → places (take i (take j (take k stops))) ++ (places (drop j (take k stops))
    ++ (places (drop i (take j (take k stops))) ++ places (drop k stops))) ≡ moved_in order i j k
moved_places stops order i j k is = subst (λ (l : List ℕ). places (take i (take j (take k stops))) ++ (places (drop j (take k stops))
    ++ (places (drop i (take j (take k stops))) ++ places (drop k stops))) ≡ moved_in l i j k) is
    (let f = λ (s : Stop). s.place in
    let whole = take-map f k stops in
    let front = ap (take j) whole ∙ take-map f j (take k stops) in
    let before : take i (take j (take k (places stops))) ≡ places (take i (take j (take k stops))) =
    ap (take i) front ∙ take-map f i (take j (take k stops)) in
    let run : drop i (take j (take k (places stops))) ≡ places (drop i (take j (take k stops))) =
    ap (drop i) front ∙ drop-map f i (take j (take k stops)) in
    let other : drop j (take k (places stops)) ≡ places (drop j (take k stops)) = ap (drop j) whole ∙ drop-map f j (take k stops) in
    let last : drop k (places stops) ≡ places (drop k stops) = drop-map f k stops in
    rw before (rw run (rw other (rw last refl))))

-- The places of three runs, the middle one from the reversed order, are those of the order with it reversed.
pub reversed_places : (stops back : List Stop) (order : List ℕ) (i j : ℕ) → places stops ≡ order → places back ≡ reverse order
    → places (take i (take j stops)) ++ (places (drop (length order - j) (take (length order - i) back)) ++ (places (drop j stops) ++ []))
    ≡ reversed_in order i j
reversed_places stops back order i j is back_is =
    let f = λ (s : Stop). s.place in
    let before : places (take i (take j stops)) ≡ take i (take j order) =
    sym (take-map f i (take j stops)) ∙ ap (take i) (sym (take-map f j stops) ∙ ap (take j) is) in
    let run : places (drop (length order - j) (take (length order - i) back))
    ≡ drop (length order - j) (take (length order - i) (reverse order)) =
    sym (drop-map f (length order - j) (take (length order - i) back))
    ∙ ap (drop (length order - j)) (sym (take-map f (length order - i) back) ∙ ap (take (length order - i)) back_is) in
    let last : places (drop j stops) ++ [] ≡ drop j order =
    append-nil (places (drop j stops)) ∙ sym (drop-map f j stops) ∙ ap (drop j) is in
    rw before (rw run (rw last refl))

-- One more step is passed.
pub passed_next : (visits : List Visit) (start : Option Point) (count : ℕ) (old mid new : Tracks) (changed here : Bool)
    → ArePassed visits start count old mid changed → IsStep visits start count mid new here
    → ArePassed visits start (count + 1) old new (changed || here)
passed_next visits start count old mid new true true passed step = omega (arith, passed, step)
passed_next visits start count old mid new true false passed step =
    subst (λ (t : Tracks). t.best.travel < old.best.travel) (sym step.0) passed
passed_next visits start count old mid new false true passed step =
    subst (λ (t : Tracks). new.best.travel < t.best.travel) passed.0 step
passed_next visits start count old mid new false false passed step = (
  step.0 ∙ passed.0,
  λ i below. by_test i (nat_lt i count) refl below,
) where
  by_test : (i : ℕ) (b : Bool) → nat_lt i count ≡ b → i < count + 1 → IsLeastFrom visits start old.best i
  by_test i true is below = passed.1 i (grind (arith, nat_tests))
  by_test i false is below =
      let same : count ≡ i = grind (arith, nat_tests) in
      subst (IsLeastFrom visits start old.best) same (subst (λ (t : Tracks). IsLeastFrom visits start t.best count) passed.0 step.1)

-- Where no change at any index has less travel, none of the order has.
pub least_is_settled : (visits : List Visit) (start : Option Point) (best : VisitOrder)
    → best.travel ≡ travel_in visits start best.order → IsLeastUpTo visits start best (length best.order)
    → IsSettled visits start best.order
least_is_settled visits start best travel least = record { moved = moved; reversed = reversed } where
  order : List ℕ
  order = best.order

  moved : (a b c d : List ℕ) → order ≡ a ++ (b ++ (c ++ d)) → length b + length c ≤ most_changed (length order)
      → travel_in visits start order ≤ travel_in visits start (a ++ (c ++ (b ++ d)))
  moved a [] c d is few = omega (arith, ap (travel_in visits start) is)
  moved a (x ∷ b) [] d is few = omega (arith, ap (travel_in visits start) is)
  moved a (x ∷ b) (y ∷ c) d is few =
      let count : length order ≡ length a + (length (x ∷ b) + (length (y ∷ c) + length d)) = ap length is
      ∙ length-append a ((x ∷ b) ++ ((y ∷ c) ++ d)) ∙ ap (λ (n : ℕ). length a + n)
      (length-append (x ∷ b) ((y ∷ c) ++ d) ∙ ap (λ (n : ℕ). length (x ∷ b) + n) (length-append (y ∷ c) d)) in
      let j = length a + length (x ∷ b) in
      let k = length a + length (x ∷ b) + length (y ∷ c) in
      let here : IsLeastFrom visits start best (length a) = least (length a) (omega (arith, count)) in
      let no_less : best.travel ≤ travel_in visits start (moved_in order (length a) j k) =
      here.moved j (omega arith) (omega (arith, here.end_is, count)) k (omega arith) (omega (arith, here.end_is, count, few)) in
      omega (arith, travel, no_less, ap (travel_in visits start) (moved_of order a (x ∷ b) (y ∷ c) d (length a) j k is refl refl refl))

  reversed : (a b c : List ℕ) → order ≡ a ++ (b ++ c) → length b ≤ most_changed (length order)
      → travel_in visits start order ≤ travel_in visits start (a ++ (reverse b ++ c))
  reversed a [] c is few = omega (arith, ap (travel_in visits start) is)
  reversed a (x ∷ []) c is few = omega (arith, ap (travel_in visits start) is)
  reversed a (x ∷ y ∷ b) c is few =
      let count : length order ≡ length a + (length (x ∷ y ∷ b) + length c) =
      ap length is ∙ length-append a ((x ∷ y ∷ b) ++ c) ∙ ap (λ (n : ℕ). length a + n) (length-append (x ∷ y ∷ b) c) in
      let j = length a + length (x ∷ y ∷ b) in
      let here : IsLeastFrom visits start best (length a) = least (length a) (omega (arith, count)) in
      let no_less : best.travel ≤ travel_in visits start (reversed_in order (length a) j) =
      here.reversed j (omega arith) (omega (arith, here.end_is, count, few)) in
      omega (arith, travel, no_less, ap (travel_in visits start) (reversed_of order a (x ∷ y ∷ b) c (length a) j is refl refl))
