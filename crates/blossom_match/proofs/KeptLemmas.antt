-- A search, and the slacks from its outer vertices, from what the type of a kept search says of them.
use Rattle.std.proofs.Common.{◌≡◌, ℕ, ◌-◌, ◌*◌, ◌≤◌, ◌⊎◌, inl, inr, List, [], ◌∷◌, ◌++◌, get_or, arith, subst, sym}
use Rattle.std.proofs.Math.Logic.{∥∥₁_elim, ∥∥₁_map}
use Rattle.std.proofs.Math.Path.{subst₂}
use Rattle.std.proofs.Props.{props}
use Rattle.std.proofs.lemmas.Bool.{cases_eq}
use Rattle.odd_sets.specs.DualSets.{IsOddSet, IsOutside, IsTightInside, SlackRow, slack_rows_of}
use Rattle.odd_sets.specs.SlackRows.{IsSlackRow}
use Rattle.blossom_match.proofs.Names.{AreOuterSlacks, AreSearchSlacks, BranchValue, CanSearch, Each, FAR, IsAlternatingTree, IsMatch, IsOuterSlack, IsSearch, IsSoundBranch, IsSoundMatch, IsSearchMask, IsSoundSet, MatchValue, OddSetValue, ReachesEither, SearchValue, TableValue, by_count, by_either, cases_lt, count, count_holding_both, entry, height, hit_is, hit_same, outer_members, search_value, slack_from, stored_height}
use Rattle.blossom_match.specs.declared.state.Search.{Search}

module _ (P : ℕ → Type 0) (decided : (a : ℕ) → P a ⊎ (P a → ⊥)) where
  -- a vertex of a list satisfies P, or none does
  one_or_none : (xs : List ℕ) → ((a : ℕ) × (1 ≤ count a xs) × P a) ⊎ ((a : ℕ) → 1 ≤ count a xs → P a → ⊥)
  one_or_none [] = inr (λ a here p. absurd (omega (arith, here)))
  one_or_none (x ∷ xs) = by_either
      (λ p. inl (x, omega (arith, hit_same x), p))
      (λ no. by_either
      (λ one. inl (one.0, omega (arith, one.1), one.2))
      (λ none. inr (λ a here p. by_count (count a xs)
      (λ e. no (subst P (hit_is a x (omega (arith, here, e))) p))
      (λ e. none a e p)))
      (one_or_none xs))
      (decided x)

  -- where one does, one is found
  chosen : (xs : List ℕ) → ∥ ((a : ℕ) × (1 ≤ count a xs) × P a) ∥₁ → (a : ℕ) × (1 ≤ count a xs) × P a
  chosen xs some = by_either (λ one. one)
      (λ none. absurd (∥∥₁_elim some (λ x y. absurd x) (λ one. none one.0 one.1 one.2)))
      (one_or_none xs)

-- each item of a list
each_of : {X : Type 0} (P : X → Type 0) → ((x : X) → ∥ P x ∥₁ → P x) → (xs : List X) → ∥ Each P xs ∥₁ → Each P xs
each_of P of [] some = tt
each_of P of (x ∷ xs) some = (of x (∥∥₁_map some (λ e. e.0)), each_of P of xs (∥∥₁_map some (λ e. e.1)))

row_of : (t : TableValue) (r : SlackRow) → ∥ IsSlackRow t r ∥₁ → IsSlackRow t r
row_of t r some = record {
  size = ∥∥₁_elim some (hlevel props) (λ k. k.size);
  own = λ x here lx. ∥∥₁_elim some (hlevel props) (λ k. k.own x here lx);
  short = λ x none lx. ∥∥₁_elim some (hlevel props) (λ k. k.short x none lx);
  least = λ a x ha none lx. ∥∥₁_elim some (hlevel props) (λ k. k.least a x ha none lx);
  is = λ x none lx.
      let left = get_or r.cells x 0 in
      let one = chosen (λ a. left ≡ 2 * entry t a x - height a r.below) (λ a. cases_eq left (2 * entry t a x - height a r.below))
      r.members
      (∥∥₁_map some (λ k. let l = k.is x none lx in (l.a, l.here, l.exact))) in
      record { a = one.0; here = one.1; exact = one.2 };
}

odd_of : (s : OddSetValue) → ∥ IsOddSet s ∥₁ → IsOddSet s
odd_of s some = record {
  odd = ∥∥₁_elim some (hlevel props) (λ k. k.odd);
  covered = λ x none. each_of (IsOutside x) (λ b out. ∥∥₁_elim out (hlevel props) (λ e. e)) s.below (∥∥₁_map some (λ k. k.covered x none));
  single = λ none. ∥∥₁_elim some (hlevel props) (λ k. k.single none);
}

sound_of : (t : TableValue) (h : ℕ → ℕ) (s : OddSetValue) → ∥ IsSoundSet t h s ∥₁ → IsSoundSet t h s
sound_of t h s some = record {
  kept = odd_of s (∥∥₁_map some (λ k. k.kept));
  paid = each_of (IsTightInside t) (λ e tight. ∥∥₁_elim tight (hlevel props) (λ k. k)) s.blossom_edges (∥∥₁_map some (λ k. k.paid));
  near = each_of (IsSlackRow t) (row_of t) (slack_rows_of s) (∥∥₁_map some (λ k. k.near));
  local = λ x here. ∥∥₁_elim some (hlevel props) (λ k. k.local x here);
  even = λ x y hx hy. ∥∥₁_elim some (hlevel props) (λ k. k.even x y hx hy);
}

branch_of : (t : TableValue) (h : ℕ → ℕ) (b : BranchValue) → ∥ IsSoundBranch t h b ∥₁ → IsSoundBranch t h b
branch_of t h b some = record {
  up = ∥∥₁_elim some (hlevel props) (λ k. k.up);
  pair = ∥∥₁_elim some (hlevel props) (λ k. k.pair);
  inner = sound_of t h b.inner (∥∥₁_map some (λ k. k.inner));
  outer = sound_of t h b.outer (∥∥₁_map some (λ k. k.outer));
}

match_of : (t : TableValue) (h : ℕ → ℕ) (c : MatchValue) → ∥ IsSoundMatch t h c ∥₁ → IsSoundMatch t h c
match_of t h c some = record {
  link = ∥∥₁_elim some (hlevel props) (λ k. k.link);
  first = sound_of t h c.first (∥∥₁_map some (λ k. k.first));
  second = sound_of t h c.second (∥∥₁_map some (λ k. k.second));
}

tree_of : (places : List ℕ) (bs : List BranchValue) → ∥ IsAlternatingTree places bs ∥₁ → IsAlternatingTree places bs
tree_of places [] some = tt
tree_of places (b ∷ bs) some = (
  ∥∥₁_elim some (hlevel props) (λ k. k.0),
  ∥∥₁_elim some (hlevel props) (λ k. k.1),
  ∥∥₁_elim some (hlevel props) (λ k. k.2),
  ∥∥₁_elim some (hlevel props) (λ k. k.3),
  tree_of (b.outer.members ++ places) bs (∥∥₁_map some (λ k. k.4)),
)

search_of : (t : TableValue) (h : ℕ → ℕ) (s : SearchValue) → ∥ IsSearch t h s ∥₁ → IsSearch t h s
search_of t h s some = record {
  tall = λ x none. ∥∥₁_elim some (hlevel props) (λ k. k.tall x none);
  slack = λ a f la hf apart. ∥∥₁_elim some (hlevel props) (λ k. k.slack a f la hf apart);
  places = λ x. ∥∥₁_elim some (hlevel props) (λ k. k.places x);
  grown = tree_of s.root.members s.tree (∥∥₁_map some (λ k. k.grown));
  joined = each_of IsMatch (λ c is. ∥∥₁_elim is (hlevel props) (λ k. k)) s.rest (∥∥₁_map some (λ k. k.joined));
  root = sound_of t h s.root (∥∥₁_map some (λ k. k.root));
  tree = each_of (IsSoundBranch t h) (branch_of t h) s.tree (∥∥₁_map some (λ k. k.tree));
  rest = each_of (IsSoundMatch t h) (match_of t h) s.rest (∥∥₁_map some (λ k. k.rest));
  loads = λ a b la lb apart. ∥∥₁_elim some (hlevel props) (λ k. k.loads a b la lb apart);
}

pub can_of : (t : TableValue) (s : SearchValue) → ∥ CanSearch t s ∥₁ → CanSearch t s
can_of t s some = record {
  search = search_of t (stored_height s) s (∥∥₁_map some (λ k. k.search));
  size = ∥∥₁_elim some (hlevel props) (λ k. k.size);
  some = ∥∥₁_elim some (hlevel props) (λ k. k.some);
}

both_equal : (m n p q : ℕ) → ((m ≡ n) × (p ≡ q)) ⊎ ((m ≡ n) × (p ≡ q) → ⊥)
both_equal m n p q = by_either
    (λ e. by_either (λ f. inl (e, f)) (λ no. inr (λ k. no k.1)) (cases_eq p q))
    (λ no. inr (λ k. no k.0)) (cases_eq m n)

-- one of two vertices has the slack from the other
either_of : (t : TableValue) (hs reach : List ℕ) (a b : ℕ) → ∥ ReachesEither t hs reach a b ∥₁ → ReachesEither t hs reach a b
either_of t hs reach a b some = by_either
    (λ more. inr (∥∥₁_elim some (hlevel props) (by_either (λ low. absurd (omega (arith, low, more))) (λ low. low))))
    inl
    (cases_lt (slack_from t hs a b) (get_or reach b 0))

-- a cell is FAR, or an outer vertex has its slack
slack_of : (t : TableValue) (hs : List ℕ) (root : OddSetValue) (tree : List BranchValue) (x left : ℕ)
    → ∥ ((left ≡ FAR) ⊎ IsOuterSlack t hs root tree x left) ∥₁ → (left ≡ FAR) ⊎ IsOuterSlack t hs root tree x left
slack_of t hs root tree x left some = by_either inl
    (λ near.
    let one = chosen (λ a. (count_holding_both a x root tree ≡ 0) × (left ≡ slack_from t hs a x))
    (λ a. both_equal (count_holding_both a x root tree) 0 left (slack_from t hs a x)) (outer_members root.members tree)
    (∥∥₁_map some (by_either (λ far. absurd (near far)) (λ l. (l.a, l.here, (l.apart, l.exact))))) in
    inr (record { a = one.0; here = one.1; apart = one.2.0; exact = one.2.1 }))
    (cases_eq left FAR)

pub slacks_of : (t : TableValue) (hs : List ℕ) (root : OddSetValue) (tree : List BranchValue) (reach : List ℕ)
    → ∥ AreOuterSlacks t hs root tree reach ∥₁ → AreOuterSlacks t hs root tree reach
slacks_of t hs root tree reach some = record {
  size = ∥∥₁_elim some (hlevel props) (λ k. k.size);
  short = λ x lx. ∥∥₁_elim some (hlevel props) (λ k. k.short x lx);
  least = λ a x ha lx none. ∥∥₁_elim some (hlevel props) (λ k. k.least a x ha lx none);
  both = λ a b ha hb la lb apart. either_of t hs reach a b (∥∥₁_map some (λ k. k.both a b ha hb la lb apart));
  is = λ x lx. slack_of t hs root tree x (get_or reach x 0) (∥∥₁_map some (λ k. k.is x lx));
}

-- the fields of a kept search whose parts are equal to those that a step made
pub keeps : (t : TableValue) (s made : Search) (reach slacks mask shown : List ℕ) → s ≡ made → reach ≡ slacks → mask ≡ shown
    → CanSearch t (search_value made) → AreSearchSlacks t (search_value made) slacks → IsSearchMask t (search_value made) shown
    → record {
      can : ∥ CanSearch t (search_value s) ∥₁;
      reaches : ∥ AreSearchSlacks t (search_value s) reach ∥₁;
      masks : IsSearchMask t (search_value s) mask;
    }
keeps t s made reach slacks mask shown one two three can reaches masks = record {
  can = subst (λ (x : Search). ∥ CanSearch t (search_value x) ∥₁) (sym one) ∣ can ∣₁;
  reaches = subst₂ (λ (x : Search) (cells : List ℕ). ∥ AreSearchSlacks t (search_value x) cells ∥₁) (sym one) (sym two) ∣ reaches ∣₁;
  masks = subst₂ (λ (x : Search) (cells : List ℕ). IsSearchMask t (search_value x) cells) (sym one) (sym three) masks;
}
