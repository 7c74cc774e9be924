-- Lemmas on the nodes of the search.
use Rattle.std.proofs.Common.{◌≡◌, ◌∙◌, ◌==◌, ◌≤◌, ◌<◌, ◌+◌, ◌^◌, Bool, true, false, ℕ, zero, suc, List, [], ◌∷◌, ◌++◌, Option, Some, length, take, drop, get_or, slice_get, All, IsPermutation, append_assoc, ap, nat_lt, refl, sym, subst, arith}
use Rattle.near_pieces.proofs.Names.{nat_tests, append-nil, All-append, All-drop, All-permutation, All-take, get_or-range_with_len, length-range_with_len, length-remove, IsPermutation-more, IsPermutation-refl, length_permutation, get_or_from_slice_get, slice_get-get_or, slice_get_within, range_with_len, remove, Point, Node, VisitOrder, Visit, AreInside, IsLeastAfter, IsMeasured, IsNode, IsNodeAfter, IsTriedUpTo, less_of, node_after, IsOrderOf, given_order, exit_from, travel_in, visit_at, way_to}

-- The indexes of all places are those of places.
pub all_inside : (visits : List Visit) → All (λ i. i < length visits) (given_order visits)
all_inside visits k d below =
    let within : k < length visits = omega (arith, below, length-range_with_len 0 (length visits)) in
    let is : get_or (given_order visits) k d ≡ 0 + k = get_or-range_with_len 0 (length visits) k d within in
    omega (arith, within, is)

-- The one more index of a longer range.
pub one_more : (n : ℕ) → range_with_len 0 (n + 1) ≡ range_with_len 0 n ++ n ∷ []
one_more n =
    let longer : suc n ≡ n + 1 = omega arith in
    let same : 0 + n ≡ n = omega arith in
    subst (λ k. range_with_len 0 k ≡ range_with_len 0 n ++ n ∷ []) longer
    (subst (λ k. range_with_len 0 (suc n) ≡ range_with_len 0 n ++ k ∷ []) same (from_any 0 n)) where
      from_any : (a n : ℕ) → range_with_len a (suc n) ≡ range_with_len a n ++ (a + n) ∷ []
      from_any a zero = ap (λ k. k ∷ []) (omega arith)
      from_any a (suc n) = ap (λ l. a ∷ l) (from_any (a + 1) n ∙ ap (λ k. range_with_len (a + 1) n ++ k ∷ []) (omega arith))

-- The node at which no place is taken.
pub first_is_node : (visits : List Visit) (start : Option Point) (n : Node) → n.from ≡ start → n.travel ≡ 0 → n.taken ≡ []
    → n.left ≡ given_order visits → length visits ≤ 1024 → IsNode visits start n
first_is_node visits start n from travel taken left few = record {
  each = subst (λ l. IsPermutation (given_order visits) (l ++ n.left)) (sym taken)
      (subst (λ l. IsPermutation (given_order visits) l) (sym left) (IsPermutation-refl (given_order visits)));
  cost = λ rest. omega (arith, ap (λ l. travel_in visits start (l ++ rest)) taken, travel, ap (λ p. travel_in visits p rest) from);
  inside = record {
    inside = subst (All (λ i. i < length visits)) (sym left) (all_inside visits);
    small = omega (arith, travel, few, ap length left, length-range_with_len 0 (length visits));
  };
}

-- A node after a node.
pub next_is_node : (visits : List Visit) (start : Option Point) (n next : Node) (i : ℕ) → IsNode visits start n
    → i < length n.left → IsNodeAfter visits n i next → AreInside visits next → IsNode visits start next
next_is_node visits start n next i is below after inside =
    let x = get_or n.left i 0 in
    let at : slice_get n.left i ≡ Some x = slice_get-get_or n.left i 0 below in
    subst (λ m. IsNode visits start m) (sym (after x at)) (record {
      each = IsPermutation-more (given_order visits) n.taken n.left i x below (sym (get_or_from_slice_get n.left i x x at)) is.each;
      cost = λ rest. goes_on x rest;
      inside = subst (AreInside visits) (after x at) inside;
    }) where
      goes_on : (x : ℕ) (rest : List ℕ) → travel_in visits start ((n.taken ++ x ∷ []) ++ rest)
          ≡ n.travel + way_to n.from (visit_at visits x) + travel_in visits (Some (exit_from n.from (visit_at visits x))) rest
      goes_on x rest =
          let one : travel_in visits start ((n.taken ++ x ∷ []) ++ rest) ≡ travel_in visits start (n.taken ++ x ∷ rest) =
          ap (travel_in visits start) (append_assoc n.taken (x ∷ []) rest) in
          omega (arith, one, is.cost (x ∷ rest))

-- What is left after a node are indexes of places, and the travel to all of them can be added.
pub inside_after : (visits : List Visit) (n : Node) (i way : ℕ) (from : Option Point) (taken left : List ℕ) → AreInside visits n
    → i < length n.left → way < 2 ^ 64 → left ≡ remove n.left i
    → AreInside visits (record { from = from; travel = n.travel + way; taken = taken; left = left })
inside_after visits n i way from taken left is below short left_is = record {
  inside = subst (All (λ k. k < length visits)) (sym left_is) (All-append (λ k. k < length visits) (take i n.left) (drop (suc i) n.left)
      (All-take (λ k. k < length visits) i n.left is.inside) (All-drop (λ k. k < length visits) (suc i) n.left is.inside));
  small = omega (arith, is.small, short, ap length left_is, length-remove n.left i below);
}

-- A list that isn't empty by a test.
pub some_left : (count : ℕ) (test : Bool) → test ≡ (count == 0) → test ≡ false → 0 < count
some_left count test is fails = grind (arith, nat_tests)

-- One place fewer is left after a node.
pub fewer_left : (visits : List Visit) (n next : Node) (i : ℕ) → i < length n.left → IsNodeAfter visits n i next
    → length next.left < length n.left
fewer_left visits n next i below after =
    let x = get_or n.left i 0 in
    let at : slice_get n.left i ≡ Some x = slice_get-get_or n.left i 0 below in
    let is : length next.left ≡ length (remove n.left i) = ap (λ m. length m.left) (after x at) in
    omega (arith, is, length-remove n.left i below)

-- No travel of an order that goes on from a node is less than the node's own.
pub no_less_after : (visits : List Visit) (n : Node) (travel : ℕ) → travel ≤ n.travel → IsLeastAfter visits n travel
no_less_after visits n travel less rest order = omega (arith, less)

-- A node at which no place is left has one order, the one that is taken.
pub least_at_end : (visits : List Visit) (n : Node) (travel : ℕ) → n.left ≡ [] → travel ≤ n.travel → IsLeastAfter visits n travel
least_at_end visits n travel none less = no_less_after visits n travel less

-- The orders with one more of the places that are left are tried.
pub tried_next : (visits : List Visit) (n next : Node) (i before after : ℕ) → i < length n.left → IsNodeAfter visits n i next
    → IsTriedUpTo visits n i before → after ≤ before → IsLeastAfter visits next after → IsTriedUpTo visits n (i + 1) after
tried_next visits n next i before after below is tried less least j x rest within at order = by_test (nat_lt j i) refl where
  at_index : (y : ℕ) → slice_get n.left i ≡ Some y → IsOrderOf (remove n.left i) rest
      → after ≤ n.travel + travel_in visits n.from (y ∷ rest)
  at_index y here left =
      let moved : IsLeastAfter visits (node_after visits n i y) after =
      subst (λ m. IsLeastAfter visits m after) (is y here) least in
      omega (arith, moved rest left)

  by_test : (b : Bool) → nat_lt j i ≡ b → after ≤ n.travel + travel_in visits n.from (x ∷ rest)
  by_test true test =
      let earlier : j < i = grind (arith, nat_tests) in
      omega (arith, less, tried j x rest earlier at order)
  by_test false test =
      let same : j ≡ i = grind (arith, nat_tests) in
      at_index x (subst (λ k. slice_get n.left k ≡ Some x) same at) (subst (λ k. IsOrderOf (remove n.left k) rest) same order)

-- All orders that go on from a node are tried.
pub tried_all : (visits : List Visit) (n : Node) (i travel : ℕ) → length n.left ≤ i → 0 < length n.left
    → IsTriedUpTo visits n i travel → IsLeastAfter visits n travel
tried_all visits n i travel all some tried [] none = absurd (omega (arith, some, ap length none))
tried_all visits n i travel all some tried (x ∷ rest) (j, at, order) =
    tried j x rest (omega (arith, all, slice_get_within n.left j x at)) at order

-- The order that a node has taken in the end has each place once, and the node's travel.
pub end_is_measured : (visits : List Visit) (start : Option Point) (n : Node) → IsNode visits start n → n.left ≡ []
    → IsMeasured visits start (record { order = n.taken; travel = n.travel })
end_is_measured visits start n is none = record {
  each = subst (IsPermutation (given_order visits)) (ap (λ l. n.taken ++ l) none ∙ append-nil n.taken) is.each;
  travel = omega (arith, is.cost [], ap (travel_in visits start) (append-nil n.taken));
}

-- The lesser of the two is measured, and is no more than either.
pub less_is_measured : (visits : List Visit) (start : Option Point) (n : Node) (best : VisitOrder) → IsNode visits start n
    → n.left ≡ [] → IsMeasured visits start best → IsMeasured visits start (less_of n best)
less_is_measured visits start n best is none measured = grind (arith, nat_tests, end_is_measured visits start n is none)

pub less_is_less : (n : Node) (best : VisitOrder) → ((less_of n best).travel ≤ best.travel) × ((less_of n best).travel ≤ n.travel)
less_is_less n best = grind (arith, nat_tests)

-- The indexes of an order with each place once are those of places.
pub order_inside : (visits : List Visit) (order : List ℕ) → IsPermutation (given_order visits) order
    → All (λ i. i < length visits) order
order_inside visits order each = All-permutation (λ i. i < length visits) (given_order visits) order each (all_inside visits)

-- An order with each place once has as many indexes as there are places.
pub order_length : (visits : List Visit) (order : List ℕ) → IsPermutation (given_order visits) order → length order ≡ length visits
order_length visits order each = omega (arith, length_permutation (given_order visits) order each, length-range_with_len 0 (length visits))
