-- A matching of nodes by links is one of the places that stand at them.
use Rattle.std.proofs.Common.{◌≡◌, ◌≤◌, ◌<◌, ℕ, ◌+◌, ◌==◌, ◌⊎◌, inl, inr, Bool, cond, List, [], ◌∷◌, arith, refl, sym, ◌∙◌, ap}
use Rattle.free_ends.proofs.Names.{cases_eq, eq-eqb, one_if, sum_by-cons, unequal, Pair, TableValue, entry, pair_ends_at, pairs_cost}
use Rattle.free_ends.proofs.LinkLemmas.{AreNear, Link, link_costs, link_ends}

-- 1 for true, and 0 for false, as pairs count their ends
abbrev end_if : Bool → ℕ
end_if t = cond t 1 0

-- the ends of a pair and of those after it, and what they cost
pub pair_ends-cons : (x : ℕ) (q : Pair) (pairs : List Pair)
    → pair_ends_at (q ∷ pairs) x ≡ (cond (x == q.a) 1 0 + cond (x == q.b) 1 0) + pair_ends_at pairs x
pair_ends-cons x q pairs = sum_by-cons (λ (q : Pair). cond (x == q.a) 1 0 + cond (x == q.b) 1 0) q pairs

pub pairs_cost-cons : (t : TableValue) (q : Pair) (pairs : List Pair) → pairs_cost t (q ∷ pairs) ≡ entry t q.a q.b + pairs_cost t pairs
pairs_cost-cons t q pairs = sum_by-cons (λ (q : Pair). entry t q.a q.b) q pairs

module _ (t : TableValue) (count : ℕ) (spot : ℕ → ℕ) (pot : ℕ → ℕ → ℕ) where
  -- places at different nodes, and the distances of a table as potentials
  pub record AreSpots : Type 0 where
    pub apart : (i j : ℕ) → i < count → j < count → spot i ≡ spot j → i ≡ j
    pub entries : (i j : ℕ) → i < count → j < count → entry t i j ≡ pot i (spot j)
    pub home : (i : ℕ) → i < count → pot i (spot i) ≡ 0

  -- each end of links is at a place
  abbrev pub HavePlaces : List Link → Type 0
  HavePlaces ls = (v : ℕ) → 1 ≤ link_ends v ls → (i : ℕ) × (i < count) × (spot i ≡ v)

  -- pairs of places in the place of links
  pub record PairsOf (ls : List Link) : Type 0 where
    pub pairs : List Pair
    pub ends : (x : ℕ) → x < count → pair_ends_at pairs x ≡ link_ends (spot x) ls
    pub beyond : (x : ℕ) → count ≤ x → pair_ends_at pairs x ≡ 0
    pub costs : pairs_cost t pairs ≤ link_costs ls

  -- a place is an end where its node is
  same_end : AreSpots → (x i v : ℕ) → x < count → i < count → spot i ≡ v → cond (x == i) 1 0 ≡ one_if (v == spot x)
  same_end are x i v x_in i_in at = go (cases_eq x i)
    where
      go : (x ≡ i) ⊎ (x ≡ i → ⊥) → cond (x == i) 1 0 ≡ one_if (v == spot x)
      go (inl is) = rw (eq-eqb x i is, eq-eqb v (spot x) (sym at ∙ ap spot (sym is))) refl
      go (inr aside) = rw (unequal x i aside, unequal v (spot x) (λ is. aside (are.apart x i x_in i_in (sym is ∙ sym at)))) refl

  not_there : (x i : ℕ) → count ≤ x → i < count → end_if (x == i) ≡ 0
  not_there x i over i_in = rw (unequal x i (λ is. omega (arith, is, over, i_in))) refl

  pub pairs_of : AreSpots → (ls : List Link) → AreNear count pot ls → HavePlaces ls → PairsOf ls
  pairs_of are [] near there = record { pairs = []; ends = λ x x_in. refl; beyond = λ x over. refl; costs = omega arith }
  pairs_of are (l ∷ ls) near there =
      let r = pairs_of are ls near.1 (λ v some. there v (omega (arith, some))) in
      let i = there l.a (omega (arith, ap one_if (eq-eqb l.a l.a refl))) in
      let j = there l.b (omega (arith, ap one_if (eq-eqb l.b l.b refl))) in
      let q : Pair = record { a = i.0; b = j.0 } in
      let short : entry t i.0 j.0 ≤ l.cost =
      omega (arith, are.entries i.0 j.0 i.1 j.1, ap (pot i.0) j.2, (near.0 i.0 i.1).1, sym (ap (pot i.0) i.2), are.home i.0 i.1) in
      record {
        pairs = q ∷ r.pairs;
        ends = λ x x_in. pair_ends-cons x q r.pairs
            ∙ added _ _ _ _ _ _ (same_end are x i.0 l.a x_in i.1 i.2) (same_end are x j.0 l.b x_in j.1 j.2)
            (r.ends x x_in);
        beyond = λ x over. pair_ends-cons x q r.pairs
            ∙ nothing _ _ _ (not_there x i.0 over i.1) (not_there x j.0 over j.1) (r.beyond x over);
        costs = omega (arith, pairs_cost-cons t q r.pairs, short, r.costs);
      }
    where
      added : (a b c d e f : ℕ) → a ≡ d → b ≡ e → c ≡ f → (a + b) + c ≡ (d + e) + f
      added a b c d e f one two three = omega arith

      nothing : (a b c : ℕ) → a ≡ 0 → b ≡ 0 → c ≡ 0 → (a + b) + c ≡ 0
      nothing a b c one two three = omega arith
