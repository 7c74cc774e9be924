-- The least of all changes, pair by pair and set by set.
use Rattle.std.proofs.Common.{◌≡◌, ℕ, ◌+◌, ◌≤◌, ◌<◌, ◌⊎◌, inl, List, [], ◌∷◌, ◌++◌, length, take, drop, get_or, arith, refl, sym, ap, subst, ◌∙◌}
use Rattle.blossom_match.proofs.Names.{nat_tests, take-append-drop, Each, OddSetValue, count, outer_members, count_holding_both, IsBlossomDual, AllowsChange, BranchValue, DualChange, drop_here, each-map, each-push, take_here, count-append, members-append, around_append, base_in, around_none, IsLesserChangeAt}

-- no outer set holds a place of those before and a place of this one
pub apart_from : (a b : ℕ) (root : OddSetValue) (bs : List BranchValue) (c : BranchValue) (after : List BranchValue)
    → ((x : ℕ) → count x (outer_members root.members (bs ++ c ∷ after)) ≤ 1) →
    1 ≤ count a (outer_members root.members bs) → 1 ≤ count b c.outer.members → count_holding_both a b root (bs ++ c ∷ after) ≡ 0
apart_from a b root bs c after once ha hb =
    omega (
      arith,
      around_append,
      around_none a b root.members bs (omega (arith, members-append, count-append, once b, hb)),
      around_none a b [] after (omega (arith, members-append, count-append, once b, hb)),
      members-append,
      count-append,
      once a,
      ha,
      once b,
      hb,
      base_in b root.members bs,
    )

pub split_here : (tree : List BranchValue) (i : ℕ) (b : BranchValue) → i < length tree → b ≡ get_or tree i b → tree
    ≡ take i tree ++ b ∷ drop (i + 1) tree
split_here tree i b low is = sym (take-append-drop i tree) ∙ ap (λ (ks : List BranchValue). take i tree ++ ks) (drop_here tree i b low is)

-- the blossoms so far
pub record Narrowing (tree : List BranchValue) (i : ℕ) (old new : DualChange) : Type 0 where
  pub less : new.by ≤ old.by
  pub wide : Each (AllowsChange new.by) (take i tree)
  pub is : (new ≡ old) ⊎ IsBlossomDual tree new

pub narrowing_more : (tree : List BranchValue) (i : ℕ) (b : BranchValue) (o m n : DualChange) → i < length tree → b ≡ get_or tree i b
    → Narrowing tree i o m → IsLesserChangeAt b i m n → Narrowing tree (i + 1) o n
narrowing_more tree i b o m n low is one two = record {
  less = omega (arith, one.less, two.less);
  wide = subst (λ (ks : List BranchValue). Each (AllowsChange n.by) ks) (sym (take_here tree i b low is))
      (each-push (AllowsChange n.by) (take i tree) b (each-map (AllowsChange m.by) (AllowsChange n.by)
      (λ k w some. omega (arith, w some, two.less)) (take i tree) one.wide) two.wide);
  is = grind (arith, nat_tests, drop_here, one.is, two.is);
}

pub narrowing_start : (tree : List BranchValue) (o : DualChange) → Narrowing tree 0 o o
narrowing_start tree o = record { less = omega arith; wide = tt; is = inl refl }
