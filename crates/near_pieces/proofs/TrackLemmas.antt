-- Lemmas on an order with its stops there and back.
use Rattle.std.proofs.Common.{◌≡◌, ◌∙◌, ◌+◌, ◌-◌, ◌<◌, ◌≤◌, ℕ, false, List, [], ◌++◌, All, IsPermutation, Option, None, length, take, drop, reverse, ap, refl, sym, subst, arith}
use Rattle.std.proofs.lemmas.List.{length-reverse}
use Rattle.std.proofs.lemmas.List.Sorted.{IsPermutation-reverse}
use Rattle.std.specs.List.{take-map}
use Rattle.near_pieces.proofs.NodeLemmas.{order_inside, order_length}
use Rattle.near_pieces.proofs.ChangeLemmas.{least_is_settled, moved_keeps_places, moved_places, reversed_keeps_places, reversed_places}
use Rattle.near_pieces.proofs.Names.{All-permutation, Point, Visit, given_order, travel_in}
use Rattle.near_pieces.proofs.StopLemmas.{known_in, last_in, length_in, part_drop, part_take, places_in, take_stops, travel_append}
use Rattle.near_pieces.specs.Changes.{ArePassed, IsLeastUpTo, IsTracks, moved_in, reversed_in}
use Rattle.near_pieces.specs.OrderChanges.{IsSettled}
use Rattle.near_pieces.specs.Stops.{IsKnown, IsPart, last_reached, needle_through, places, stops_in}
use Rattle.near_pieces.specs.declared.stop.Reached.{Reached}
use Rattle.near_pieces.specs.declared.stop.Stop.{Stop}
use Rattle.near_pieces.specs.declared.tracks.Tracks.{Tracks}

-- The indexes of a reversed order are those of places.
pub reversed_inside : (visits : List Visit) (order : List ℕ) → IsPermutation (given_order visits) order
    → All (λ i. i < length visits) (reverse order)
reversed_inside visits order each = All-permutation (λ i. i < length visits) order (reverse order) (IsPermutation-reverse order)
    (order_inside visits order each)

module _ (visits : List Visit) (start : Option Point) (t : Tracks) (is : IsTracks visits start t) where
  pub there_part : IsPart visits t.there
  there_part = record {
    from = start;
    travel = 0;
    order = t.best.order;
    is = is.there;
    inside = order_inside visits t.best.order is.measured.each;
  }

  pub back_part : IsPart visits t.back
  back_part = record {
    from = None;
    travel = 0;
    order = reverse t.best.order;
    is = is.back;
    inside = reversed_inside visits t.best.order is.measured.each;
  }

  pub there_known : All (IsKnown visits) t.there
  there_known = subst (All (IsKnown visits)) (sym is.there) (known_in visits start 0 t.best.order)

  pub back_known : All (IsKnown visits) t.back
  back_known = subst (All (IsKnown visits)) (sym is.back) (known_in visits None 0 (reverse t.best.order))

  pub there_places : places t.there ≡ t.best.order
  there_places = ap places is.there ∙ places_in visits start 0 t.best.order

  pub back_places : places t.back ≡ reverse t.best.order
  back_places = ap places is.back ∙ places_in visits None 0 (reverse t.best.order)

  pub there_length : length t.there ≡ length t.best.order
  there_length = ap length is.there ∙ length_in visits start 0 t.best.order

  pub back_length : length t.back ≡ length t.best.order
  back_length = ap length is.back ∙ length_in visits None 0 (reverse t.best.order) ∙ length-reverse t.best.order

  pub there_first : t.there ≡ stops_in visits start 0 (places t.there)
  there_first = is.there ∙ ap (stops_in visits start 0) (sym there_places)

-- The first stops of an order are those of their places.
pub take_first : (visits : List Visit) (start : Option Point) (stops : List Stop) (n : ℕ) → stops ≡ stops_in visits start 0 (places stops)
    → take n stops ≡ stops_in visits start 0 (places (take n stops))
take_first visits start stops n is = ap (take n) is ∙ take_stops visits start 0 (places stops) n
    ∙ ap (stops_in visits start 0) (take-map (λ (s : Stop). s.place) n stops)

-- A travel that is no more than the least one after the first stops of an order is no more than that of the whole order.
pub no_more_than_whole : (visits : List Visit) (start : Option Point) (before : List Stop) (rest : List ℕ) (at : Reached)
    (most least : ℕ) → before ≡ stops_in visits start 0 (places before)
    → at ≡ last_reached (record { from = start; travel = 0 }) before → least ≤ at.travel + travel_in visits at.from rest
    → most ≤ least → most ≤ travel_in visits start (places before ++ rest)
no_more_than_whole visits start before rest at most least first at_is less more =
    let reached : at ≡ record { from = needle_through visits start (places before); travel = 0 + travel_in visits start (places before) } =
    at_is ∙ ap (last_reached (record { from = start; travel = 0 })) first ∙ last_in visits start 0 (places before) in
    omega (
      arith,
      less,
      more,
      travel_append visits start (places before) rest,
      ap (λ (r : Reached). r.travel) reached,
      ap (λ (r : Reached). travel_in visits r.from rest) reached,
    )

-- Parts of orders that are a changed order one after another.
pub record AreParts (visits : List Visit) (start : Option Point) (order new : List ℕ) (before one other last : List Stop)
    : Type 0 where
  pub first : before ≡ stops_in visits start 0 (places before)
  pub one_is : IsPart visits one
  pub other_is : IsPart visits other
  pub last_is : IsPart visits last
  pub whole : places before ++ (places one ++ (places other ++ places last)) ≡ new
  pub each : IsPermutation order (places before ++ (places one ++ (places other ++ places last)))

module _ (visits : List Visit) (start : Option Point) (t : Tracks) (is : IsTracks visits start t) (i j k : ℕ) where
  -- The parts of an order with a run moved.
  pub moved_parts : (all front middle before run other last : List Stop) → all ≡ t.there → front ≡ take k all → last ≡ drop k all
      → middle ≡ take j front → other ≡ drop j front → before ≡ take i middle → run ≡ drop i middle
      → AreParts visits start t.best.order (moved_in t.best.order i j k) before other run last
  moved_parts all front middle before run other last all_is front_is last_is middle_is other_is before_is run_is =
      let whole_there = front_is ∙ ap (take k) all_is in
      let front_there = middle_is ∙ ap (take j) whole_there in
      let first_there : before ≡ take i (take j (take k t.there)) = before_is ∙ ap (take i) front_there in
      let run_there : run ≡ drop i (take j (take k t.there)) = run_is ∙ ap (drop i) front_there in
      let other_there : other ≡ drop j (take k t.there) = other_is ∙ ap (drop j) whole_there in
      let last_there : last ≡ drop k t.there = last_is ∙ ap (drop k) all_is in
      let there = there_part visits start t is in
      let first_k = take_first visits start t.there k (there_first visits start t is) in
      let first_j = take_first visits start (take k t.there) j first_k in
      let a = take i (take j (take k t.there)) in
      let b = drop i (take j (take k t.there)) in
      let c = drop j (take k t.there) in
      let whole : places before ++ (places other ++ (places run ++ places last)) ≡ moved_in t.best.order i j k =
      ap (λ (l : List Stop). places l ++ (places other ++ (places run ++ places last))) first_there
      ∙ ap (λ (l : List Stop). places a ++ (places l ++ (places run ++ places last))) other_there
      ∙ ap (λ (l : List Stop). places a ++ (places c ++ (places l ++ places last))) run_there
      ∙ ap (λ (l : List Stop). places a ++ (places c ++ (places b ++ places l))) last_there
      ∙ moved_places t.there t.best.order i j k (there_places visits start t is) in
      record {
        first = subst (λ (l : List Stop). l ≡ stops_in visits start 0 (places l)) (sym first_there)
            (take_first visits start (take j (take k t.there)) i first_j);
        one_is = subst (IsPart visits) (sym other_there) (part_drop visits (take k t.there) j (part_take visits t.there k there));
        other_is = subst (IsPart visits) (sym run_there)
            (part_drop visits (take j (take k t.there)) i (part_take visits (take k t.there) j (part_take visits t.there k there)));
        last_is = subst (IsPart visits) (sym last_there) (part_drop visits t.there k there);
        whole = whole;
        each = subst (IsPermutation t.best.order) (sym whole) (moved_keeps_places t.best.order i j k);
      }

module _ (visits : List Visit) (start : Option Point) (t : Tracks) (is : IsTracks visits start t) (i j : ℕ) where
  -- The parts of an order with a run reversed.
  pub reversed_parts : (count : ℕ) (all front before run back most last : List Stop) → i ≤ j → j ≤ length t.best.order
      → count ≡ length t.there → all ≡ t.there → front ≡ take j all → last ≡ drop j all → before ≡ take i front → back ≡ t.back
      → most ≡ take (count - i) back → run ≡ drop (count - j) most
      → AreParts visits start t.best.order (reversed_in t.best.order i j) before run last []
  reversed_parts count all front before run back most last run_ij within count_is all_is front_is last_is before_is back_is
      most_is run_is =
      let n = length t.best.order in
      let same : count ≡ n = count_is ∙ there_length visits start t is in
      let front_there = front_is ∙ ap (take j) all_is in
      let first_there : before ≡ take i (take j t.there) = before_is ∙ ap (take i) front_there in
      let last_there : last ≡ drop j t.there = last_is ∙ ap (drop j) all_is in
      let most_back : most ≡ take (n - i) t.back =
      most_is ∙ ap (take (count - i)) back_is ∙ ap (λ (m : ℕ). take (m - i) t.back) same in
      let run_back : run ≡ drop (n - j) (take (n - i) t.back) =
      run_is ∙ ap (drop (count - j)) most_back ∙ ap (λ (m : ℕ). drop (m - j) (take (n - i) t.back)) same in
      let first_j = take_first visits start t.there j (there_first visits start t is) in
      let a = take i (take j t.there) in
      let b = drop (n - j) (take (n - i) t.back) in
      let whole : places before ++ (places run ++ (places last ++ [])) ≡ reversed_in t.best.order i j =
      ap (λ (l : List Stop). places l ++ (places run ++ (places last ++ []))) first_there
      ∙ ap (λ (l : List Stop). places a ++ (places l ++ (places last ++ []))) run_back
      ∙ ap (λ (l : List Stop). places a ++ (places b ++ (places l ++ []))) last_there
      ∙ reversed_places t.there t.back t.best.order i j (there_places visits start t is) (back_places visits start t is) in
      record {
        first = subst (λ (l : List Stop). l ≡ stops_in visits start 0 (places l)) (sym first_there)
            (take_first visits start (take j t.there) i first_j);
        one_is = subst (IsPart visits) (sym run_back)
            (part_drop visits (take (n - i) t.back) (n - j) (part_take visits t.back (n - i) (back_part visits start t is)));
        other_is = subst (IsPart visits) (sym last_there) (part_drop visits t.there j (there_part visits start t is));
        last_is = record { from = None; travel = 0; order = []; is = refl; inside = λ k d below. absurd (omega (arith, below)) };
        whole = whole;
        each = subst (IsPermutation t.best.order) (sym whole) (reversed_keeps_places t.best.order i j run_ij within);
      }

-- An order in which no step finds less travel is settled.
pub passed_is_settled : (visits : List Visit) (start : Option Point) (old new : Tracks) → IsTracks visits start new
    → ArePassed visits start (length visits) old new false → IsSettled visits start new.best.order
passed_is_settled visits start old new is passed =
    least_is_settled visits start new.best is.measured.travel
    (subst (IsLeastUpTo visits start new.best) (sym (order_length visits new.best.order is.measured.each))
    (subst (λ (t : Tracks). IsLeastUpTo visits start t.best (length visits)) (sym passed.0) passed.1))
