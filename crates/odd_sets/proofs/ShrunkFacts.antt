-- A search that has shrunk, and the chain while it does: the same places, and what is added over the sets.
use Rattle.std.proofs.Common.{◌≡◌, ℕ, ◌+◌, ◌*◌, ◌%◌, ◌<◌, ◌≤◌, List, [], ◌∷◌, ◌++◌, length, reverse, refl, arith}
use Rattle.odd_sets.proofs.Names.{AreOddSets, Branch, BranchValue, CanShrink, DualSet, Each, IsAdditive, IsAlternatingTree, IsChainTo, IsOpenChain, IsSoundBranch, IsSoundPart, IsSoundSet, IsSymmetric, IsTight, OddSetValue, PartValue, Shrinks, Slots, TableValue, TightEdge, branch_dual_sets, branch_in, count, dual_sets, dual_sets_in, inner_dual_sets, inner_members, members_in, one_if_both, outer_members, outer_with_both}
use Rattle.odd_sets.specs.ChainSteps.{ExtendsChain, IsOpenChainIn}
use Rattle.odd_sets.specs.Folds.{FoldsOuters}
use Rattle.odd_sets.specs.declared.shrinking.Chain.{Chain}
use Rattle.odd_sets.proofs.SetFacts.{blossom, link, place, tree}

-- after shrinking: an alternating tree of the same places, fewer inner sets, and one set more, of dual 0
pub known_shrunk : (way : TightEdge) (root : OddSetValue) (new : List BranchValue) → Shrinks blossom way (place 0 1) root tree new
    → IsAlternatingTree root.members new × FoldsOuters blossom (place 0 1) root tree new
    × (count 4 (outer_members root.members new) + count 4 (inner_members new) ≡ 1) × (length (inner_dual_sets new) < 5)
    × ((F : List DualSet → ℕ) → IsAdditive F → F (dual_sets root) + F (branch_dual_sets new)
    ≡ F (dual_sets (place 0 1)) + F (branch_dual_sets tree) + F (record { key = 9; members = 1 ∷ 2 ∷ 3 ∷ []; dual = 0 } ∷ []))
    × ((d : TableValue) (h : ℕ → ℕ) → IsSymmetric d → IsTight d h way → IsSoundSet d h (place 0 1) → Each (IsSoundBranch d h) tree
    → IsSoundSet d h root × Each (IsSoundBranch d h) new)
known_shrunk way root new does = (
  does.grown,
  does.folds,
  does.places 4,
  does.fewer,
  does.sums,
  λ d h both tight sound firm. let after = does.firm d h both tight sound firm in (after.0, after.1),
)

-- the blossom is an outer set of the new tree, where the other outer sets are those of the old one
pub known_folds : (root : OddSetValue) (new : List BranchValue) (t : TableValue) (h : ℕ → ℕ) → FoldsOuters blossom (place 0 1) root tree new
    → (one_if_both 4 4 root + outer_with_both 4 4 new ≡ 1) × (1 ≤ one_if_both 1 2 root + outer_with_both 1 2 new)
    × (one_if_both 1 4 root + outer_with_both 1 4 new ≡ 0)
    × (IsSoundSet t h root → Each (IsSoundBranch t h) new → IsSoundSet t h blossom)
known_folds root new t h folds =
    (folds.same 4 4 refl, folds.holds 1 2, folds.apart 1 4 (omega arith) refl, λ sound firm. folds.sound t h sound firm)

-- while it does, the chain leads from an outer vertex of the branches left to another one, and all sets are in their places
pub known_chain : (chain : List PartValue) (aside : List BranchValue) (way : TightEdge) (to : ℕ)
    → IsOpenChain (link 4 6) (place 0 1) tree tree chain aside way to
    → IsAlternatingTree (0 ∷ []) tree × IsChainTo way chain to × (1 ≤ count way.from (4 ∷ 6 ∷ 0 ∷ [])) × (1 ≤ count to (4 ∷ 6 ∷ 0 ∷ []))
    × (length chain % 2 ≡ 0) × (length chain ≡ 0 → (way.from ≡ 4) × (to ≡ 6)) × AreOddSets chain
    × IsAlternatingTree (members_in chain ++ 4 ∷ 6 ∷ 0 ∷ []) (reverse aside)
    × (count 6 (members_in chain) ≡ 0 → 1 + outer_with_both 6 6 (reverse aside) ≡ 1)
    × (count 3 (members_in chain) + count 3 (outer_members [] (reverse aside)) + count 3 (inner_members (reverse aside)) ≡ 0)
    × (2 * (5 + length (inner_dual_sets (reverse aside))) + length chain ≤ 10)
known_chain chain aside way to is = (
  is.grown,
  is.leads,
  is.from,
  is.back,
  is.even,
  is.begun,
  is.kept,
  is.hung,
  λ none. is.outers 6 6 none,
  omega (arith, is.places 3),
  is.fewer,
)

-- the edge isn't within one set, and no vertex is there twice
pub known_chain_within : (chain : List PartValue) (aside : List BranchValue) (way : TightEdge) (to : ℕ)
    → IsOpenChain (link 4 4) (place 0 1) tree tree chain aside way to → ⊥
known_chain_within chain aside way to is = odd is.apart
  where
    odd : ◌≡◌ {A = ℕ} 1 0 → ⊥
    odd one = omega (arith, one)

pub known_chain_twice : (left aside : List BranchValue) (chain : List PartValue) (way : TightEdge) (to : ℕ)
    → IsOpenChain way (place 4 1) tree left chain aside way to → ⊥
known_chain_twice left aside chain way to is = twice (is.once 4)
  where
    twice : 2 ≤ 1 → ⊥
    twice less = omega (arith, less)

pub known_chain_sums : (chain : List PartValue) (aside : List BranchValue) (way : TightEdge) (to : ℕ)
    → IsOpenChain (link 4 6) (place 0 1) tree tree chain aside way to
    → ((F : List DualSet → ℕ) → IsAdditive F
    → F (branch_dual_sets tree) + F (dual_sets_in chain) + F (branch_dual_sets (reverse aside)) ≡ F (branch_dual_sets tree))
    × ((d : TableValue) (h : ℕ → ℕ) → IsSymmetric d → IsTight d h (link 4 6) → Each (IsSoundBranch d h) tree
    → Each (IsSoundBranch d h) tree × Each (IsSoundBranch d h) (reverse aside) × Each (IsSoundPart d h) chain × IsTight d h way)
known_chain_sums chain aside way to is = (
  is.sums,
  λ d h both tight firm.
      let after = is.firm d h both tight firm in (after.0, after.1, after.2, after.3),
)

-- one step of it takes the last branch that is left
pub known_chain_step : (sets : Slots) (b : Branch) (old new : Chain) (was now : List Branch) → ExtendsChain sets b old was new now
    → CanShrink (link 4 6) (place 0 1) tree → IsOpenChainIn sets (link 4 6) (place 0 1) tree (tree ++ branch_in sets b ∷ []) old was
    → IsOpenChainIn sets (link 4 6) (place 0 1) tree tree new now
known_chain_step sets b old new was now does can is = does.goes (link 4 6) (place 0 1) tree _ tree can refl is
