-- Links: pairs of nodes with a cost. Any links have a matching of the nodes where an odd number of them ends, which costs no
-- more.
use Rattle.std.proofs.Common.{◌≡◌, ◌≤◌, ◌<◌, ℕ, ◌+◌, ◌%◌, ◌==◌, ◌⊎◌, inl, inr, List, [], ◌∷◌, arith, refl, sym, ◌∙◌, ap, subst}
use Rattle.free_ends.proofs.Names.{cases_eq, one_if, eq_self, unequal}

-- two nodes, and what a way between them costs
pub record Link : Type 0 where
  pub a : ℕ
  pub b : ℕ
  pub cost : ℕ

-- the number of ends of links at a node
abbrev pub link_ends : ℕ → List Link → ℕ
link_ends v [] = 0
link_ends v (l ∷ ls) = (one_if (l.a == v) + one_if (l.b == v)) + link_ends v ls

-- the cost of links
abbrev pub link_costs : List Link → ℕ
link_costs [] = 0
link_costs (l ∷ ls) = l.cost + link_costs ls

module _ (count : ℕ) (pot : ℕ → ℕ → ℕ) where
  -- two nodes differ by no more than a cost in each of the potentials
  abbrev pub IsNear : ℕ → ℕ → ℕ → Type 0
  IsNear a b cost = (i : ℕ) → i < count → (pot i a ≤ pot i b + cost) × (pot i b ≤ pot i a + cost)

  abbrev pub AreNear : List Link → Type 0
  AreNear [] = Unit {0}
  AreNear (l ∷ ls) = IsNear l.a l.b l.cost × AreNear ls

  -- links of which each node has at most one end
  pub record IsMatched (ls : List Link) : Type 0 where
    pub near : AreNear ls
    pub small : (v : ℕ) → link_ends v ls ≤ 1

  -- a link with an end at a node, taken out
  record TakenLink (a : ℕ) (ls : List Link) : Type 0 where
    to : ℕ
    cost : ℕ
    rest : List Link
    near : IsNear a to cost
    rest_near : AreNear rest
    ends : (v : ℕ) → link_ends v ls ≡ (one_if (a == v) + one_if (to == v)) + link_ends v rest
    costs : link_costs ls ≡ cost + link_costs rest

  take_link : (a : ℕ) (ls : List Link) → AreNear ls → 1 ≤ link_ends a ls → TakenLink a ls
  take_link a [] near some = absurd (omega (arith, some))
  take_link a (l ∷ ls) near some = elim (cases_eq l.a a) [
    | inl is ↦ record {
      to = l.b;
      cost = l.cost;
      rest = ls;
      near = subst (λ (x : ℕ). IsNear x l.b l.cost) is near.0;
      rest_near = near.1;
      ends = λ v. subst (λ (x : ℕ). link_ends v (l ∷ ls) ≡ (one_if (x == v) + one_if (l.b == v)) + link_ends v ls) is refl;
      costs = refl;
    }
    | inr apart ↦ elim (cases_eq l.b a) [
      | inl is ↦ record {
        to = l.a;
        cost = l.cost;
        rest = ls;
        near = λ i low. let n = near.0 i low in subst (λ (x : ℕ). (pot i x ≤ pot i l.a + l.cost) × (pot i l.a ≤ pot i x + l.cost)) is
            (n.1, n.0);
        rest_near = near.1;
        ends = λ v. subst (λ (x : ℕ). link_ends v (l ∷ ls) ≡ (one_if (x == v) + one_if (l.a == v)) + link_ends v ls) is (omega arith);
        costs = refl;
      }
      | inr aside ↦
          let later : 1 ≤ link_ends a ls = omega (arith, some, ap one_if (unequal l.a a apart), ap one_if (unequal l.b a aside)) in
          let r = take_link a ls near.1 later in
          record {
            to = r.to;
            cost = r.cost;
            rest = l ∷ r.rest;
            near = r.near;
            rest_near = (near.0, r.rest_near);
            ends = λ v. omega (arith, r.ends v);
            costs = omega (arith, r.costs);
          }
    ]
  ]

  -- a node without its link, and the node that this link leads to; a node without a link is left as it is
  record Dangling (a : ℕ) (ls : List Link) : Type 0 where
    to : ℕ
    cost : ℕ
    rest : List Link
    near : IsNear a to cost
    matched : IsMatched rest
    free : link_ends to rest ≡ 0
    fewer : (v : ℕ) → link_ends v rest ≤ link_ends v ls
    ends : (v : ℕ) → ((link_ends v ls + one_if (a == v)) + (one_if (to == v) + link_ends v rest)) % 2 ≡ 0
    costs : cost + link_costs rest ≤ link_costs ls

  dangle : (a : ℕ) (ls : List Link) → IsMatched ls → Dangling a ls
  dangle a ls m = go (cases_eq (link_ends a ls) 0)
    where
      go : (link_ends a ls ≡ 0) ⊎ (link_ends a ls ≡ 0 → ⊥) → Dangling a ls
      go (inl none) = record {
        to = a;
        cost = 0;
        rest = ls;
        near = λ i low. (omega arith, omega arith);
        matched = m;
        free = none;
        fewer = λ v. omega arith;
        ends = λ v. omega arith;
        costs = omega arith;
      }
      go (inr met) =
          let t = take_link a ls m.near (omega (arith, met)) in
          record {
            to = t.to;
            cost = t.cost;
            rest = t.rest;
            near = t.near;
            matched = record { near = t.rest_near; small = λ v. omega (arith, t.ends v, m.small v) };
            free = omega (arith, t.ends t.to, m.small t.to, ap one_if (eq_self t.to));
            fewer = λ v. omega (arith, t.ends v);
            ends = λ v. omega (arith, t.ends v);
            costs = omega (arith, t.costs);
          }

  -- a matching after a link is added: of its two nodes, one that has a link loses it, and the nodes at the other ends get one
  record Toggled (l : Link) (ls : List Link) : Type 0 where
    rest : List Link
    matched : IsMatched rest
    ends : (v : ℕ) → (link_ends v rest + link_ends v (l ∷ ls)) % 2 ≡ 0
    costs : link_costs rest ≤ link_costs (l ∷ ls)

  through : (a to b back x y z : ℕ) → (a ≤ to + x) × (to ≤ a + x) → (a ≤ b + y) × (b ≤ a + y) → (b ≤ back + z) × (back ≤ b + z)
      → (to ≤ back + ((x + y) + z)) × (back ≤ to + ((x + y) + z))
  through a to b back x y z one two three =
      (omega (arith, one.0, one.1, two.0, two.1, three.0, three.1), omega (arith, one.0, one.1, two.0, two.1, three.0, three.1))

  -- two nodes without a link, and a link between them
  one_each : (a b v : ℕ) (ls : List Link) → (a ≡ b → ⊥) → link_ends a ls ≡ 0 → link_ends b ls ≡ 0 → link_ends v ls ≤ 1
      → (one_if (a == v) + one_if (b == v)) + link_ends v ls ≤ 1
  one_each a b v ls apart free also small = go (cases_eq a v) (cases_eq b v)
    where
      go : (a ≡ v) ⊎ (a ≡ v → ⊥) → (b ≡ v) ⊎ (b ≡ v → ⊥) → (one_if (a == v) + one_if (b == v)) + link_ends v ls ≤ 1
      go (inl is) (inl too) = absurd (apart (is ∙ sym too))
      go (inl is) (inr aside) =
          let none : link_ends v ls ≡ 0 = subst (λ (x : ℕ). link_ends x ls ≡ 0) is free in
          let one : one_if (a == v) ≡ 1 = subst (λ (x : ℕ). one_if (a == x) ≡ 1) is (ap one_if (eq_self a)) in
          omega (arith, none, one, ap one_if (unequal b v aside))
      go (inr aside) (inl is) =
          let none : link_ends v ls ≡ 0 = subst (λ (x : ℕ). link_ends x ls ≡ 0) is also in
          let one : one_if (b == v) ≡ 1 = subst (λ (x : ℕ). one_if (b == x) ≡ 1) is (ap one_if (eq_self b)) in
          omega (arith, none, one, ap one_if (unequal a v aside))
      go (inr aside) (inr too) = omega (arith, ap one_if (unequal a v aside), ap one_if (unequal b v too), small)

  toggle : (l : Link) (ls : List Link) → IsNear l.a l.b l.cost → IsMatched ls → Toggled l ls
  toggle l ls near m =
      let d = dangle l.a ls m in
      let e = dangle l.b d.rest d.matched in
      elim (cases_eq d.to e.to) [
        | inl same ↦ record {
          rest = e.rest;
          matched = e.matched;
          ends = λ v. let at : one_if (d.to == v) ≡ one_if (e.to == v) = ap (λ (x : ℕ). one_if (x == v)) same in
              omega (arith, d.ends v, e.ends v, at);
          costs = omega (arith, d.costs, e.costs);
        }
        | inr apart ↦ record {
          rest = record { a = d.to; b = e.to; cost = (d.cost + l.cost) + e.cost } ∷ e.rest;
          matched = record {
            near = (λ i low. through _ _ _ _ _ _ _ (d.near i low) (near i low) (e.near i low), e.matched.near);
            small = λ v. one_each d.to e.to v e.rest apart (omega (arith, d.free, e.fewer d.to)) e.free (e.matched.small v);
          };
          ends = λ v. omega (arith, d.ends v, e.ends v);
          costs = omega (arith, d.costs, e.costs);
        }
      ]

  -- a matching of the nodes where an odd number of links ends
  pub record Matched (ls : List Link) : Type 0 where
    pub rest : List Link
    pub matched : IsMatched rest
    pub ends : (v : ℕ) → (link_ends v rest + link_ends v ls) % 2 ≡ 0
    pub costs : link_costs rest ≤ link_costs ls

  pub match_links : (ls : List Link) → AreNear ls → Matched ls
  match_links [] near = record {
    rest = [];
    matched = record { near = tt; small = λ v. omega arith };
    ends = λ v. refl;
    costs = omega arith;
  }
  match_links (l ∷ ls) near =
      let r = match_links ls near.1 in
      let t = toggle l r.rest near.0 r.matched in
      record {
        rest = t.rest;
        matched = t.matched;
        ends = λ v. omega (arith, t.ends v, r.ends v);
        costs = omega (arith, t.costs, r.costs);
      }
