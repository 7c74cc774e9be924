-- The invariant of a partial tour, at each step.
use Rattle.std.proofs.Common.{◌≡◌, ◌≤◌, ◌<◌, inl, inr, ℕ, zero, suc, ◌+◌, ◌/◌, ◌%◌, ◌==◌, Bool, true, false, not, List, [], ◌∷◌, ◌++◌, map, length, get_or, slice_get, Option, Some, None, arith, refl, sym, ◌∙◌, ap, subst}
use Rattle.euler_tour.proofs.Names.{nat_tests, slice_get_within, Edge, Pass, one_if, is_odd, after_edge, edge_of, pass_start_on, edge_value, pass_sum, passes, is_strictly_increasing, pass_start, walk_end_from, edge_ends_at, remaining_ends, remaining_sum, decremented_at, junction_across, junction_at, pass_from, pass_to, IsExhausted, IsTourInvariant, same_number, some_same, map-append, after_pass, pass_end, edge_found, walk_append}
use Rattle.euler_tour.proofs.LeftLemmas.{count_step, left_less}
use Rattle.euler_tour.proofs.WalkLemmas.{pass_sum_push, passes_push}
use Rattle.euler_tour.proofs.CallerLemmas.{started}

-- ---- a step out

-- the pass along an edge from where it starts
led : (found : Option Edge) (e : Edge) (back : Bool) (at next : ℕ) → found ≡ Some e → pass_start e back ≡ at
    → pass_start e (not back) ≡ next → after_edge found back at ≡ Some next
led found e back at next is starts ends = grind (arith, nat_tests)

-- what is done stays so where a line is taken
still : (edges : List Edge) (left : List ℕ) (goal tail place j : ℕ) (e : Edge) → slice_get edges place ≡ Some e → 1 ≤ get_or left place 0
    → IsExhausted edges left goal tail j → IsExhausted edges (decremented_at left place) goal tail j
still edges left goal tail place j e is some (inl none) = grind (arith, nat_tests, left_less (edge_ends_at j) edges left place e is some)
still edges left goal tail place j e is some (inr there) = inr there

-- a step out along the edge at an index
out_core : (lines : List ℕ) (edges : List Edge) (times left : List ℕ) (out home : List Pass) (head goal at tail place next : ℕ)
    (back : Bool) (e : Edge)
    → is_strictly_increasing lines ≡ true → length lines ≡ length edges → slice_get edges place ≡ Some e → 1 ≤ get_or left place 0
    → pass_start e back ≡ at → pass_start e (not back) ≡ next → IsTourInvariant lines edges times left out home head goal at tail
    → IsTourInvariant lines edges times (decremented_at left place) (out ++ record { line = get_or lines place 0; back = back } ∷ []) home
    head goal next
    tail
out_core lines edges times left out home head goal at tail place next back e rising beside is some starts ends k = record {
  counted = λ i. λ below. summed _ _ _ _ _ _ _ (passes_push (get_or lines i 0) out pass)
      (count_step lines left place i rising within below some) (k.counted i below);
  sums = λ f. summed _ _ _ _ _ _ _
      (pass_sum_push lines edges f out pass ∙ ap (λ (x : Option Edge). pass_sum lines edges f out + edge_value f x) found)
      (omega (arith, left_less f edges left place e is some)) (k.sums f);
  goes_out = walk_append lines edges (Some goal) out (pass ∷ []) ∙ ap (λ (x : Option ℕ). after_pass lines edges pass x) k.goes_out ∙
      led (edge_of lines edges (get_or lines place 0)) e back at next found starts ends;
  goes_home = k.goes_home;
  even = λ j. evened _ _ _ _ _ _ (left_less (edge_ends_at j) edges left place e is some) (grind (arith, nat_tests))
      (k.even j);
  done = λ i. λ x. λ here. λ least. (
    still edges left goal tail place x.a e is some (k.done i x here least).0,
    still edges left goal
        tail place x.b e is some (k.done i x here least).1,
  );
}
  where
    pass : Pass
    pass = record { line = get_or lines place 0; back = back }

    within : place < length lines
    within = subst (λ (n : ℕ). place < n) (sym beside) (slice_get_within edges place e is)

    found : edge_of lines edges (get_or lines place 0) ≡ Some e
    found = edge_found lines edges place e rising within is

    summed : (po o b h l2 l t : ℕ) → po ≡ o + b → b + l2 ≡ l → (o + h) + l ≡ t → (po + h) + l2 ≡ t
    summed po o b h l2 l t is less sum = omega arith

    evened : (u k v w o t : ℕ) → u + k ≡ v → w + o ≡ k → ((v + w) + t) % 2 ≡ 0 → ((u + o) + t) % 2 ≡ 0
    evened u k v w o t less ends even = omega arith

-- a step out from an end
pub out_kept : (lines : List ℕ) (edges : List Edge) (times left left2 out out2 : List ℕ) (home : List Pass) (head goal at tail end next : ℕ)
    → left2 ≡ decremented_at left (end / 2) → out2 ≡ out ++ end ∷ [] → is_strictly_increasing lines ≡ true → length lines ≡ length edges
    → 1 ≤ get_or left (end / 2) 0 → junction_at edges end ≡ Some at → junction_across edges end ≡ Some next
    → IsTourInvariant lines edges times left (map (pass_from lines) out) home head goal at tail
    → IsTourInvariant lines edges times left2 (map (pass_from lines) out2) home head goal next tail
out_kept lines edges times left left2 out out2 home head goal at tail end next is_left is_out rising beside some starts ends k =
    let e = started (slice_get edges (end / 2)) (is_odd end) at starts in
    rw (is_left, is_out, map-append (pass_from lines) out (end ∷ []))
    (out_core lines edges times left (map (pass_from lines) out) home head goal at tail (end / 2) next (is_odd end) e.0 rising beside e.1
    some e.2
    (other e.0 (slice_get edges (end / 2)) (not (is_odd end)) next e.1 ends) k)
  where
    other : (e : Edge) (found : Option Edge) (back : Bool) (next : ℕ) → found ≡ Some e → pass_start_on found back ≡ Some next
        → pass_start e back ≡ next
    other e found back next is ends = some_same (pass_start e back) next (sym (ap (λ (x : Option Edge). pass_start_on x back) is) ∙ ends)

-- ---- a step back

-- where a pass came from
came : (found : Option Edge) (e : Edge) (back : Bool) (x : Option ℕ) (at : ℕ) → found ≡ Some e
    → elim x as (λ y. Option ℕ) [ None ↦ None | Some k ↦ after_edge found back k ] ≡ Some at
    → (x ≡ Some (pass_start e back)) × (pass_end e back ≡ at)
came found e back None at is leads = absurd (cc)
came found e back (Some k) at is leads = grind (arith, nat_tests)

-- the pass that was turned round
homed : (found : Option Edge) (e : Edge) (back : Bool) (at from : ℕ) → found ≡ Some e → pass_start e back ≡ from → pass_end e back ≡ at
    → after_edge found (not back) at ≡ Some from
homed found e back at from is begins ends = grind (arith, nat_tests)

-- where nothing is left the walk home ends
pub met : (u at tail : ℕ) → u ≡ 0 → ((u + one_if (at == at)) + one_if (tail == at)) % 2 ≡ 0 → tail ≡ at
met u at tail none even = grind (arith, nat_tests)

-- what was done stays so where the walk home goes on
now_done : (edges : List Edge) (left : List ℕ) (goal tail from at j : ℕ) → tail ≡ at → remaining_ends edges left at ≡ 0
    → IsExhausted edges left goal tail j → IsExhausted edges left goal from j
now_done edges left goal tail from at j meets stuck (inl none) = inl none
now_done edges left goal tail from at j meets stuck (inr (inl is)) = inr (inl is)
now_done edges left goal tail from at j meets stuck (inr (inr is)) = grind (arith, nat_tests)

-- both ends of the line that was passed
edge_done : (edges : List Edge) (left : List ℕ) (goal from at : ℕ) (e : Edge) (back : Bool) → remaining_ends edges left at ≡ 0
    → pass_start e back ≡ from → pass_end e back ≡ at → IsExhausted edges left goal from e.a × IsExhausted edges left goal from e.b
edge_done edges left goal from at e true stuck begins ends = grind (arith, nat_tests)
edge_done edges left goal from at e false stuck begins ends = grind (arith, nat_tests)

-- a step back along the edge at an index
back_core : (lines : List ℕ) (edges : List Edge) (times left : List ℕ) (xs home : List Pass) (head goal at tail from place : ℕ)
    (back : Bool) (e : Edge)
    → is_strictly_increasing lines ≡ true → length lines ≡ length edges → slice_get edges place ≡ Some e → pass_start e back ≡ from
    → remaining_ends edges left at ≡ 0
    → IsTourInvariant lines edges times left (xs ++ record { line = get_or lines place 0; back = back } ∷ []) home head goal at tail
    → IsTourInvariant lines edges times left xs (home ++ record { line = get_or lines place 0; back = not back } ∷ []) head goal from from
back_core lines edges times left xs home head goal at tail from place back e rising beside is starts stuck k = record {
  counted = λ i. λ below.
      (omega (arith, passes_push (get_or lines i 0) xs out, passes_push (get_or lines i 0) home turned, k.counted i below));
  sums = λ f. (omega (arith, pass_sum_push lines edges f xs out, pass_sum_push lines edges f home turned, k.sums f));
  goes_out = c.0 ∙ ap (λ (n : ℕ). Some n) starts;
  goes_home = walk_append lines edges (Some head) home (turned ∷ []) ∙ ap (λ (x : Option ℕ). after_pass lines edges turned x)
      (k.goes_home ∙ ap (λ (n : ℕ). Some n) meets) ∙ homed (edge_of lines edges (get_or lines place 0)) e back at from found starts c.1;
  even = λ j. (omega (
    arith,
    subst (λ (n : ℕ). ((remaining_ends edges left j + one_if (at == j)) + one_if (n == j)) % 2 ≡ 0) meets
        (k.even j),
  ));
  done = λ i. λ x. λ here. λ least. by_times i x here (passes (get_or lines i 0) home) refl
      (rw (passes_push (get_or lines i 0) home turned) at least);
}
  where
    out : Pass
    out = record { line = get_or lines place 0; back = back }

    turned : Pass
    turned = record { line = get_or lines place 0; back = not back }

    meets : tail ≡ at
    meets = met (remaining_ends edges left at) at tail stuck (k.even at)

    inside : (k : ℕ) (x : Edge) → slice_get edges k ≡ Some x → k < length lines
    inside k x here = subst (λ (n : ℕ). k < n) (sym beside) (slice_get_within edges k x here)

    found : edge_of lines edges (get_or lines place 0) ≡ Some e
    found = edge_found lines edges place e rising (inside place e is) is

    c : (walk_end_from lines edges (Some goal) xs ≡ Some (pass_start e back)) × (pass_end e back ≡ at)
    c = came (edge_of lines edges (get_or lines place 0)) e back (walk_end_from lines edges (Some goal) xs) at found
        (sym (walk_append lines edges (Some goal) xs (out ∷ [])) ∙ k.goes_out)

    by_line : (i : ℕ) (x : Edge) → slice_get edges i ≡ Some x → (t : Bool) → (get_or lines place 0 == get_or lines i 0) ≡ t
        → 1 ≤ 0 + one_if t → x ≡ e
    by_line i x here true test least =
        some_same x e (sym (edge_found lines edges i x rising (inside i x here) here)
        ∙ ap (λ (n : ℕ). edge_of lines edges n) (sym (same_number (get_or lines place 0) (get_or lines i 0) test)) ∙ found)
    by_line i x here false test least = absurd (omega arith)

    by_times : (i : ℕ) (x : Edge) → slice_get edges i ≡ Some x → (n : ℕ) → passes (get_or lines i 0) home ≡ n
        → 1 ≤ n + one_if (get_or lines place 0 == get_or lines i 0)
        → IsExhausted edges left goal from x.a × IsExhausted edges left goal from x.b
    by_times i x here zero times least =
        subst (λ (y : Edge). IsExhausted edges left goal from y.a × IsExhausted edges left goal from y.b)
        (sym (by_line i x here (get_or lines place 0 == get_or lines i 0) refl least))
        (edge_done edges left goal from at e back stuck starts c.1)
    by_times i x here (suc n) times least =
        let old = k.done i x here (omega (arith, times)) in
        (now_done edges left goal tail from at x.a meets stuck old.0, now_done edges left goal tail from at x.b meets stuck old.1)

-- a step back to an end
pub back_kept : (lines : List ℕ) (edges : List Edge) (times left out xs : List ℕ) (home home2 : List Pass) (head goal at tail from end : ℕ)
    → out ≡ xs ++ end ∷ [] → home2 ≡ home ++ pass_to lines end ∷ [] → is_strictly_increasing lines ≡ true → length lines ≡ length edges
    → junction_at edges end ≡ Some from → remaining_ends edges left at ≡ 0
    → IsTourInvariant lines edges times left (map (pass_from lines) out) home head goal at tail
    → IsTourInvariant lines edges times left (map (pass_from lines) xs) home2 head goal from from
back_kept lines edges times left out xs home home2 head goal at tail from end is_out is_home rising beside starts stuck k =
    let e = started (slice_get edges (end / 2)) (is_odd end) from starts in
    rw is_home (back_core lines edges times left (map (pass_from lines) xs) home head goal at tail from (end / 2) (is_odd end) e.0 rising
    beside e.1 e.2 stuck
    (subst (λ (ps : List Pass). IsTourInvariant lines edges times left ps home head goal at tail)
    (ap (λ (ends : List ℕ). map (pass_from lines) ends) is_out ∙ map-append (pass_from lines) xs (end ∷ [])) k))

-- ---- a skipped end

-- ---- the beginning

-- the first line is passed
pub first_kept : (lines : List ℕ) (edges : List Edge) (times left left2 out : List ℕ) (home home2 : List Pass)
    (head goal at tail next : ℕ) (e : Edge)
    → left2 ≡ decremented_at left 0 → out ≡ [] → home ≡ [] → home2 ≡ home ++ record { line = get_or lines 0 0; back = false } ∷ []
    → is_strictly_increasing lines ≡ true → length lines ≡ length edges → slice_get edges 0 ≡ Some e → 1 ≤ get_or left 0 0
    → head ≡ e.a → goal ≡ e.a → next ≡ e.b
    → IsTourInvariant lines edges times left (map (pass_from lines) out) home head goal at tail
    → IsTourInvariant lines edges times left2 (map (pass_from lines) out) home2 head goal at next
first_kept lines edges times left left2 out home home2 head goal at tail next e is_left is_out is_home is_home2 rising beside is some
    is_head is_goal is_next k =
    rw (is_left, is_home2, is_home) record {
      counted = λ i. λ below. summed _ _ _ _ _ _ (ap (λ (ps : List Pass). passes (get_or lines i 0) ps) is_home)
          (count_step lines left 0 i rising within below some) (k.counted i below);
      sums = λ f. summed _ _ _ _ _ _ (ap (λ (ps : List Pass). pass_sum lines edges f ps) is_home) (ap
          (λ (x : Option Edge). edge_value f x + remaining_sum f edges (decremented_at left 0)) found ∙
          (omega (arith, left_less f edges left 0 e is some))) (k.sums f);
      goes_out = k.goes_out;
      goes_home = led (edge_of lines edges (get_or lines 0 0)) e false head next found (sym is_head) (sym is_next);
      even = λ j. evened _ _ _ _ _ _ _ (left_less (edge_ends_at j) edges left 0 e is some) (ap (λ (n : ℕ). one_if (n == j)) tail_is)
          (ap (λ (n : ℕ). one_if (n == j)) is_next) (k.even j);
      done = λ i. λ x. λ here. λ least. by_line i x here (get_or lines 0 0 == get_or lines i 0) refl least;
    }
  where
    within : 0 < length lines
    within = subst (λ (n : ℕ). 0 < n) (sym beside) (slice_get_within edges 0 e is)

    found : edge_of lines edges (get_or lines 0 0) ≡ Some e
    found = edge_found lines edges 0 e rising within is

    tail_is : tail ≡ e.a
    tail_is = sym (some_same head tail (sym (ap (λ (ps : List Pass). walk_end_from lines edges (Some head) ps) is_home) ∙ k.goes_home))
        ∙ is_head

    summed : (o h b l2 l t : ℕ) → h ≡ 0 → b + l2 ≡ l → (o + h) + l ≡ t → (o + (b + 0)) + l2 ≡ t
    summed o h b l2 l t none less sum = omega arith

    evened : (u x y v w t n : ℕ) → u + (x + y) ≡ v → t ≡ x → n ≡ y → ((v + w) + t) % 2 ≡ 0 → ((u + w) + n) % 2 ≡ 0
    evened u x y v w t n less is_x is_y even = omega arith

    by_line : (i : ℕ) (x : Edge) → slice_get edges i ≡ Some x → (t : Bool) → (get_or lines 0 0 == get_or lines i 0) ≡ t → 1 ≤ one_if t + 0
        → IsExhausted edges (decremented_at left 0) goal next x.a × IsExhausted edges (decremented_at left 0) goal next x.b
    by_line i x here true test least =
        let one : e ≡ x = some_same e x (sym found
        ∙ ap (λ (n : ℕ). edge_of lines edges n) (same_number (get_or lines 0 0) (get_or lines i 0) test)
        ∙ edge_found lines edges i x rising (subst (λ (n : ℕ). i < n) (sym beside) (slice_get_within edges i x here)) here) in
        (inr (inl (ap (λ (y : Edge). y.a) (sym one) ∙ sym is_goal)), inr (inr (ap (λ (y : Edge). y.b) (sym one) ∙ sym is_next)))
    by_line i x here false test least = absurd (omega arith)
