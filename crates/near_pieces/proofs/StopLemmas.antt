-- Lemmas on stops of an order, and on travel through parts of orders.
use Rattle.std.proofs.Common.{◌≡◌, ◌∙◌, ◌+◌, ◌-◌, ◌<◌, ◌≤◌, ◌^◌, ℕ, zero, suc, List, [], ◌∷◌, ◌++◌, All, Option, Some, None, length, take, drop, get_or, append_assoc, ap, refl, sym, subst, arith}
use Rattle.std.proofs.Math.Seq.{drop-cons}
use Rattle.near_pieces.proofs.Names.{All-take, length-map, Point, Visit, exit_from, travel_in, visit_at, way_to}
use Rattle.near_pieces.proofs.RootLemmas.{way_below}
use Rattle.near_pieces.specs.Stops.{IsKnown, IsPart, after_stop, last_reached, needle_through, places, stop_at, stops_in, way_from}
use Rattle.near_pieces.specs.Visits.{entry_from}
use Rattle.near_pieces.specs.declared.stop.Reached.{Reached}
use Rattle.near_pieces.specs.declared.stop.Stop.{Stop}

-- The places of the stops of an order are those of the order, and as many.
pub places_in : (visits : List Visit) (from : Option Point) (travel : ℕ) (order : List ℕ)
    → places (stops_in visits from travel order) ≡ order
places_in visits from travel [] = refl
places_in visits from travel (i ∷ rest) =
    let leaves = exit_from from (visit_at visits i) in
    let way = way_to from (visit_at visits i) in
    ap (λ (l : List ℕ). i ∷ l) (places_in visits (Some leaves) (travel + way) rest)

pub length_in : (visits : List Visit) (from : Option Point) (travel : ℕ) (order : List ℕ)
    → length (stops_in visits from travel order) ≡ length order
length_in visits from travel order =
    sym (length-map (stops_in visits from travel order) (λ (s : Stop). s.place)) ∙ ap length (places_in visits from travel order)

-- The first stops of an order are those of its first places, and the others follow each other too.
pub take_stops : (visits : List Visit) (from : Option Point) (travel : ℕ) (order : List ℕ) (n : ℕ)
    → take n (stops_in visits from travel order) ≡ stops_in visits from travel (take n order)
take_stops visits from travel order zero = refl
take_stops visits from travel [] (suc n) = refl
take_stops visits from travel (i ∷ rest) (suc n) =
    let leaves = exit_from from (visit_at visits i) in
    let way = way_to from (visit_at visits i) in
    ap (λ (l : List Stop). stop_at visits from travel i ∷ l) (take_stops visits (Some leaves) (travel + way) rest n)

tail_inside : (count i : ℕ) (rest : List ℕ) → All (λ k. k < count) (i ∷ rest) → All (λ k. k < count) rest
tail_inside count i rest inside k d below = inside (suc k) d (omega (arith, below))

drop_stops : (visits : List Visit) (from : Option Point) (travel : ℕ) (order : List ℕ) (n : ℕ) → All (λ i. i < length visits) order
    → IsPart visits (drop n (stops_in visits from travel order))
drop_stops visits from travel order zero inside = record { from = from; travel = travel; order = order; is = refl; inside = inside }
drop_stops visits from travel [] (suc n) inside = record { from = from; travel = travel; order = []; is = refl; inside = inside }
drop_stops visits from travel (i ∷ rest) (suc n) inside =
    let leaves = exit_from from (visit_at visits i) in
    let way = way_to from (visit_at visits i) in
    drop_stops visits (Some leaves) (travel + way) rest n (tail_inside (length visits) i rest inside)

pub part_take : (visits : List Visit) (stops : List Stop) (n : ℕ) → IsPart visits stops → IsPart visits (take n stops)
part_take visits stops n part = record {
  from = part.from;
  travel = part.travel;
  order = take n part.order;
  is = ap (take n) part.is ∙ take_stops visits part.from part.travel part.order n;
  inside = All-take (λ i. i < length visits) n part.order part.inside;
}

pub part_drop : (visits : List Visit) (stops : List Stop) (n : ℕ) → IsPart visits stops → IsPart visits (drop n stops)
part_drop visits stops n part = subst (λ (l : List Stop). IsPart visits (drop n l)) (sym part.is)
    (drop_stops visits part.from part.travel part.order n part.inside)

-- The first place of a part is a place, and the others follow from it.
pub part_first : (visits : List Visit) (s : Stop) (rest : List Stop) → IsPart visits (s ∷ rest)
    → (s.place < length visits) × (order : List ℕ) × (rest ≡ stops_in visits (Some s.leaves) s.travel order)
part_first visits s rest part = of_order part.order part.is part.inside where
  of_order : (order : List ℕ) → s ∷ rest ≡ stops_in visits part.from part.travel order → All (λ i. i < length visits) order
      → (s.place < length visits) × (order : List ℕ) × (rest ≡ stops_in visits (Some s.leaves) s.travel order)
  of_order [] is inside = absurd cc
  of_order (i ∷ order) is inside =
      let first : s ≡ stop_at visits part.from part.travel i = ap (λ (l : List Stop). get_or l 0 s) is in
      let others : rest ≡ stops_in visits (Some (exit_from part.from (visit_at visits i)))
      (part.travel + way_to part.from (visit_at visits i)) order = ap (drop 1) is in
      let below : i < length visits = inside 0 0 (omega arith) in (
        subst (λ (x : Stop). x.place < length visits) (sym first) below,
        order,
        subst (λ (x : Stop). rest ≡ stops_in visits (Some x.leaves) x.travel order) (sym first) others,
      )

-- Travel through one part of an order after another.
pub travel_append : (visits : List Visit) (from : Option Point) (xs ys : List ℕ)
    → travel_in visits from (xs ++ ys) ≡ travel_in visits from xs + travel_in visits (needle_through visits from xs) ys
travel_append visits from [] ys = omega arith
travel_append visits from (i ∷ xs) ys = omega (arith, travel_append visits (Some (exit_from from (visit_at visits i))) xs ys)

-- Where the needle is after the stops of an order, and the travel up to there.
pub last_in : (visits : List Visit) (from : Option Point) (travel : ℕ) (order : List ℕ)
    → last_reached (record { from = from; travel = travel }) (stops_in visits from travel order)
    ≡ record { from = needle_through visits from order; travel = travel + travel_in visits from order }
last_in visits from travel [] = ap (λ (n : ℕ). let r : Reached = record { from = from; travel = n } in r) (omega arith)
last_in visits from travel (i ∷ rest) =
    let leaves = exit_from from (visit_at visits i) in
    let way = way_to from (visit_at visits i) in
    let later : travel + way + travel_in visits (Some leaves) rest ≡ travel + (way + travel_in visits (Some leaves) rest) = omega arith in
    last_in visits (Some leaves) (travel + way) rest
    ∙ ap (λ (n : ℕ). let r : Reached = record { from = needle_through visits (Some leaves) rest; travel = n } in r) later

-- The last of some stops by its index.
pub last_indexed : (at : Reached) (stops : List Stop) (d : Stop) → 0 < length stops
    → last_reached at stops ≡ after_stop (get_or stops (length stops - 1) d)
last_indexed at [] d some = absurd (omega (arith, some))
last_indexed at (s ∷ rest) d some =
    subst (λ (n : ℕ). last_reached at (s ∷ rest) ≡ after_stop (get_or (s ∷ rest) n d)) (omega arith) (from_first at s rest) where
      from_first : (at : Reached) (s : Stop) (rest : List Stop)
          → last_reached at (s ∷ rest) ≡ after_stop (get_or (s ∷ rest) (length rest) d)
      from_first at s [] = refl
      from_first at s (t ∷ rest) = from_first (after_stop s) t rest

-- Each stop of an order is known.
pub known_in : (visits : List Visit) (from : Option Point) (travel : ℕ) (order : List ℕ)
    → All (IsKnown visits) (stops_in visits from travel order)
known_in visits from travel [] k d below = absurd (omega (arith, below))
known_in visits from travel (i ∷ rest) zero d below = (travel, refl)
known_in visits from travel (i ∷ rest) (suc k) d below =
    let leaves = exit_from from (visit_at visits i) in
    let way = way_to from (visit_at visits i) in
    known_in visits (Some leaves) (travel + way) rest k d (omega (arith, below))

-- The way to a place is that to the point where it is entered.
pub way_to_entry : (from : Option Point) (v : Visit) → way_to from v ≡ way_from from (entry_from from v)
way_to_entry None v = refl
way_to_entry (Some p) v = refl

-- One more of the stops that are reached from elsewhere, after a travel that is no more than the true one.
pub step_on : (visits : List Visit) (stops : List Stop) (index : ℕ) (s : Stop) (from next : Option Point) (travel after : ℕ)
    → drop index stops ≡ s ∷ drop (index + 1) stops → next ≡ Some (exit_from from (visit_at visits s.place))
    → after ≤ travel + way_to from (visit_at visits s.place)
    → (needle_through visits next (places (drop (index + 1) stops)) ≡ needle_through visits from (places (drop index stops)))
    × (after + travel_in visits next (places (drop (index + 1) stops)) ≤ travel + travel_in visits from (places (drop index stops)))
step_on visits stops index s from next travel after drops next_is more =
    let rest = places (drop (index + 1) stops) in
    let leaves = exit_from from (visit_at visits s.place) in
    let through : needle_through visits from (places (drop index stops)) ≡ needle_through visits (Some leaves) rest =
    ap (λ (l : List Stop). needle_through visits from (places l)) drops in
    let whole : travel_in visits from (places (drop index stops))
    ≡ way_to from (visit_at visits s.place) + travel_in visits (Some leaves) rest =
    ap (λ (l : List Stop). travel_in visits from (places l)) drops in (
      ap (λ (p : Option Point). needle_through visits p rest) next_is ∙ sym through,
      omega (arith, more, whole, ap (λ (p : Option Point). travel_in visits p rest) next_is),
    )

-- From where the needle was after a stop, the rest of a part is as known.
pub rest_known : (visits : List Visit) (s : Stop) (rest : List Stop) (from : Option Point) → IsPart visits (s ∷ rest)
    → from ≡ Some s.leaves
    → ((last_reached (after_stop s) rest).from ≡ needle_through visits from (places rest))
    × ((last_reached (after_stop s) rest).travel ≡ s.travel + travel_in visits from (places rest))
rest_known visits s rest from part at =
    let first = part_first visits s rest part in
    let order = first.1 in
    let last : last_reached (after_stop s) rest
    ≡ record { from = needle_through visits (Some s.leaves) order; travel = s.travel + travel_in visits (Some s.leaves) order } =
    ap (last_reached (after_stop s)) first.2 ∙ last_in visits (Some s.leaves) s.travel order in
    let same : places rest ≡ order = ap places first.2 ∙ places_in visits (Some s.leaves) s.travel order in (
      ap (λ (r : Reached). r.from) last ∙ sym (ap (λ (p : Option Point). needle_through visits p (places rest)) at
          ∙ ap (needle_through visits (Some s.leaves)) same),
      ap (λ (r : Reached). r.travel) last ∙ ap (λ (n : ℕ). s.travel + n)
          (sym (ap (λ (p : Option Point). travel_in visits p (places rest)) at ∙ ap (travel_in visits (Some s.leaves)) same)),
    )

-- Three parts of orders one after another.
pub three_parts : (visits : List Visit) (from second third : Option Point) (travel one two three : ℕ) (xs ys zs : List ℕ)
    → second ≡ needle_through visits from xs → one ≤ travel + travel_in visits from xs
    → third ≡ needle_through visits second ys → two ≤ one + travel_in visits second ys
    → three ≤ two + travel_in visits third zs → three ≤ travel + travel_in visits from (xs ++ (ys ++ zs))
three_parts visits from second third travel one two three xs ys zs second_is less_one third_is less_two less_three =
    let at_third : third ≡ needle_through visits (needle_through visits from xs) ys =
    third_is ∙ ap (λ (p : Option Point). needle_through visits p ys) second_is in
    omega (
      arith,
      less_one,
      less_two,
      less_three,
      travel_append visits from xs (ys ++ zs),
      travel_append visits (needle_through visits from xs) ys zs,
      ap (λ (p : Option Point). travel_in visits p ys) second_is,
      ap (λ (p : Option Point). travel_in visits p zs) at_third,
    )

-- What is known of a stop holds of one at the same place from the same point.
pub known_way : (visits : List Visit) (s : Stop) → IsKnown visits s → s.way ≤ 2 ^ 64
known_way visits s known =
    omega (arith, ap (λ (x : Stop). x.way) known.1, way_below s.from (visit_at visits s.place))

pub known_later : (visits : List Visit) (s : Stop) (from : Option Point) (travel place : ℕ) → IsKnown visits s → s.place ≡ place
    → s.from ≡ from → record s { travel = travel + s.way } ≡ stop_at visits from travel place
known_later visits s from travel place known place_is from_is =
    subst (λ (i : ℕ). record s { travel = travel + s.way } ≡ stop_at visits from travel i) place_is
    (subst (λ (p : Option Point). record s { travel = travel + s.way } ≡ stop_at visits p travel s.place) from_is
    (ap (λ (x : Stop). let y : Stop = record x { travel = travel + x.way } in y) known.1))

-- A stop and those after it.
pub drop_more : (stops : List Stop) (index : ℕ) (d : Stop) → index < length stops
    → drop index stops ≡ get_or stops index d ∷ drop (index + 1) stops
drop_more stops index d below =
    let next : suc index ≡ index + 1 = omega arith in
    drop-cons stops index d below ∙ ap (λ (n : ℕ). get_or stops index d ∷ drop n stops) next

pub part_at : (visits : List Visit) (stops : List Stop) (index : ℕ) (d : Stop) → IsPart visits stops → index < length stops
    → IsPart visits (get_or stops index d ∷ drop (index + 1) stops)
part_at visits stops index d part below =
    subst (IsPart visits) (drop_more stops index d below) (part_drop visits stops index part)

-- After a stop at which the needle is where it was, the travel through the rest is as known.
pub rejoins : (visits : List Visit) (stops rest : List Stop) (index : ℕ) (s : Stop) (from next last : Option Point)
    (travel after most : ℕ) (result : Reached) → IsPart visits (s ∷ drop (index + 1) stops)
    → drop index stops ≡ s ∷ drop (index + 1) stops → next ≡ Some (exit_from from (visit_at visits s.place))
    → after ≤ travel + way_to from (visit_at visits s.place) → next ≡ Some s.leaves → rest ≡ drop (index + 1) stops
    → result.from ≡ (last_reached (after_stop s) rest).from
    → result.travel ≤ after + ((last_reached (after_stop s) rest).travel - s.travel)
    → needle_through visits from (places (drop index stops)) ≡ last
    → travel + travel_in visits from (places (drop index stops)) ≤ most → (result.from ≡ last) × (result.travel ≤ most)
rejoins visits stops rest index s from next last travel after most result part drops next_is more at rest_is from_is less through least =
    let on = step_on visits stops index s from next travel after drops next_is more in
    let known = rest_known visits s (drop (index + 1) stops) next part at in
    let last_is = ap (last_reached (after_stop s)) rest_is in (
      from_is ∙ ap (λ (r : Reached). r.from) last_is ∙ known.0 ∙ on.0 ∙ through,
      omega (arith, less, ap (λ (r : Reached). r.travel) last_is, known.1, on.1, least),
    )

-- One more stop of an order.
pub more_stops : (visits : List Visit) (stops new whole : List Stop) (order : List ℕ) (index i : ℕ) (from : Option Point)
    (travel : ℕ) (stop : Stop) (next : Reached) → new ≡ stops ++ stop ∷ [] → stop ≡ stop_at visits from travel i
    → next ≡ after_stop stop → drop index order ≡ i ∷ drop (index + 1) order
    → stops ++ stops_in visits from travel (drop index order) ≡ whole
    → new ++ stops_in visits next.from next.travel (drop (index + 1) order) ≡ whole
more_stops visits stops new whole order index i from travel stop next new_is stop_is next_is drops whole_is =
    let rest = drop (index + 1) order in
    let others = stops_in visits next.from next.travel rest in
    let same : stop ∷ others ≡ stops_in visits from travel (drop index order) =
    ap (λ (r : Reached). stop ∷ stops_in visits r.from r.travel rest) next_is
    ∙ ap (λ (s : Stop). s ∷ stops_in visits (Some s.leaves) s.travel rest) stop_is ∙ ap (stops_in visits from travel) (sym drops) in
    ap (λ (l : List Stop). l ++ others) new_is ∙ append_assoc stops (stop ∷ []) others ∙ ap (λ (l : List Stop). stops ++ l) same ∙ whole_is

-- The index of the next place of an order, and the others.
pub drop_index : (order : List ℕ) (index : ℕ) → index < length order → drop index order ≡ get_or order index 0 ∷ drop (index + 1) order
drop_index order index below =
    let next : suc index ≡ index + 1 = omega arith in
    drop-cons order index 0 below ∙ ap (λ (n : ℕ). get_or order index 0 ∷ drop n order) next

-- The travel up to the last stop is that of the order.
pub whole_travel : (visits : List Visit) (start : Option Point) (order : List ℕ) (stops : List Stop) (result : Reached)
    → stops ≡ stops_in visits start 0 order → result ≡ last_reached (record { from = start; travel = 0 }) stops
    → result.travel ≡ travel_in visits start order
whole_travel visits start order stops result stops_is result_is = omega (
  arith,
  ap (λ (r : Reached). r.travel)
      (result_is ∙ ap (last_reached (record { from = start; travel = 0 })) stops_is ∙ last_in visits start 0 order),
)
