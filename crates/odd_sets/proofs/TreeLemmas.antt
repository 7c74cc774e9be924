-- Trees that grow at the end.
use Rattle.std.proofs.Common.{◌≡◌, ℕ, ◌+◌, ◌≤◌, List, [], ◌∷◌, ◌++◌, arith, refl}
use Rattle.odd_sets.proofs.Names.{nat_tests, count, outer_members, outer_with_both, IsAlternatingTree, BranchValue}
use Rattle.odd_sets.proofs.SumLemmas.{count-append, members_each}

pub outer_members_base : (x : ℕ) (ys base : List ℕ) (bs : List BranchValue) → count x (outer_members (ys ++ base) bs)
    ≡ count x ys + count x (outer_members base bs)
outer_members_base x ys base bs = omega (arith, members_each, count-append)

pub record Last (base : List ℕ) (bs : List BranchValue) (b : BranchValue) : Type 0 where
  pub grown : IsAlternatingTree base bs
  pub above : 1 ≤ count b.up.from (outer_members base bs)
  pub up_to : count b.up.to b.inner.members ≡ 1
  pub pair_from : count b.pair.from b.inner.members ≡ 1
  pub pair_to : count b.pair.to b.outer.members ≡ 1

pub last_of : (base : List ℕ) (bs : List BranchValue) (b : BranchValue) → IsAlternatingTree base (bs ++ b ∷ []) → Last base bs b
last_of base [] b g = record { grown = tt; above = g.0; up_to = g.1; pair_from = g.2; pair_to = g.3 }
last_of base (a ∷ bs) b g =
    grind (arith, nat_tests, outer_members_base, count-append, last_of (a.outer.members ++ base) bs b g.4)

pub grown_more : (ps qs : List ℕ) (bs : List BranchValue) → ((x : ℕ) → count x ps ≤ count x qs) → IsAlternatingTree ps bs
    → IsAlternatingTree qs bs
grown_more ps qs [] le g = tt
grown_more ps qs (b ∷ bs) le g = (
  omega (arith, g.0, le b.up.from),
  g.1,
  g.2,
  g.3,
  grown_more (b.outer.members ++ ps) (b.outer.members ++ qs) bs
      (λ x. omega (arith, le x, count-append)) g.4,
)

pub grown-append : (base : List ℕ) (xs ys : List BranchValue) → IsAlternatingTree base xs → IsAlternatingTree (outer_members base xs) ys
    → IsAlternatingTree base (xs ++ ys)
grown-append base [] ys g h = h
grown-append base (b ∷ xs) ys g h = (
  g.0,
  g.1,
  g.2,
  g.3,
  grown-append (b.outer.members ++ base) xs ys g.4
      (grown_more (b.outer.members ++ outer_members base xs) (outer_members (b.outer.members ++ base) xs) ys
      (λ x. omega (arith, outer_members_base x b.outer.members base xs, count-append)) h),
)

-- one branch more at the end
pub grown_push : (base : List ℕ) (bs : List BranchValue) (b : BranchValue) → IsAlternatingTree base bs
    → 1 ≤ count b.up.from (outer_members base bs) → count b.up.to b.inner.members ≡ 1 → count b.pair.from b.inner.members ≡ 1
    → count b.pair.to b.outer.members ≡ 1 → IsAlternatingTree base (bs ++ b ∷ [])
grown_push base bs b g f u i o = grown-append base bs (b ∷ []) g (f, u, i, o, tt)

-- the places at the start are among the outer ones
pub base_in : (x : ℕ) (base : List ℕ) (tree : List BranchValue) → count x base ≤ count x (outer_members base tree)
base_in x base tree = omega (arith, members_each)

-- the outer sets that hold a place twice over are those that hold it
pub around_same : (a : ℕ) (base : List ℕ) (tree : List BranchValue)
    → count a base + outer_with_both a a tree ≡ count a (outer_members base tree)
around_same a base [] = omega arith
around_same a base (c ∷ cs) = omega (arith, around_same a base cs, count-append)

-- outer sets that do not hold one of the places do not hold both
pub around_none : (a b : ℕ) (base : List ℕ) (bs : List BranchValue) → count b (outer_members base bs) ≡ 0 → outer_with_both a b bs ≡ 0
around_none a b base [] none = refl
around_none a b base (c ∷ cs) none =
    omega (arith, around_none a b base cs (omega (arith, count-append, none)), count-append, none)

-- nor do those that do not hold the other
pub around_first : (a b : ℕ) (base : List ℕ) (bs : List BranchValue) → count a (outer_members base bs) ≡ 0 → outer_with_both a b bs ≡ 0
around_first a b base [] none = refl
around_first a b base (c ∷ cs) none =
    let n = count-append a c.outer.members (outer_members base cs) in
    omega (arith, around_first a b base cs (omega (arith, n, none)), n, none)
