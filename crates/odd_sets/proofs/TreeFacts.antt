-- Alternating trees and augmenting: what each relation requires.
use Rattle.std.proofs.Common.{◌≡◌, ℕ, ◌+◌, ◌≤◌, List, [], ◌∷◌, ◌++◌, arith}
use Rattle.odd_sets.proofs.Names.{Augments, BranchValue, CanAugment, DualSet, Each, IsAdditive, IsAlternatingTree, IsMatch, IsSoundBranch, IsSoundMatch, IsSoundSet, IsTight, MatchValue, OddSetValue, PairsBranch, TableValue, TightEdge, branch_dual_sets, count, dual_sets, match_dual_sets, match_members}
use Rattle.odd_sets.proofs.SetFacts.{link, place, tree}

none_there : 1 ≤ 0 → ⊥
none_there is = omega (arith, is)

other : ◌≡◌ {A = ℕ} 0 1 → ⊥
other is = omega (arith, is)

-- a branch begins at an outer vertex, enters and leaves its inner set, and ends in its outer set
abbrev branch : ℕ → ℕ → ℕ → ℕ → BranchValue
branch from to out end = record { up = link from to; inner = place 5 1; pair = link out end; outer = place 6 1 }

pub known_branch : (IsAlternatingTree (0 ∷ []) (branch 7 5 5 6 ∷ []) → ⊥) × (IsAlternatingTree (0 ∷ []) (branch 0 7 5 6 ∷ []) → ⊥)
    × (IsAlternatingTree (0 ∷ []) (branch 0 5 7 6 ∷ []) → ⊥) × (IsAlternatingTree (0 ∷ []) (branch 0 5 5 7 ∷ []) → ⊥)
known_branch = (λ is. none_there is.0, λ is. other is.1, λ is. other is.2, λ is. other is.3)

-- the second branch begins at the first one's outer set, not at its inner one
pub known_second : IsAlternatingTree (0 ∷ []) (branch 0 5 5 6 ∷ branch 5 5 5 6 ∷ []) → ⊥
known_second is = none_there is.4.0

-- a path begins at an outer vertex, and leads into a set beside the tree
pub known_can_augment : (met : OddSetValue) (way : TightEdge) → CanAugment met way (place 0 1) tree
    → (1 ≤ count way.from (4 ∷ 6 ∷ 0 ∷ [])) × (count way.to met.members ≡ 1) × (count 4 met.members ≡ 0) × (count 3 met.members ≡ 0)
known_can_augment met way can = (can.from, can.to, omega (arith, can.once 4), omega (arith, can.once 3))

pub known_no_tree : (met : OddSetValue) (way : TightEdge) → CanAugment met way (place 8 1) tree → ⊥
known_no_tree met way can = none_there can.grown.0

-- after it each set of the tree and the set met are matched, whatever is added over them
pub known_augmented : (met : OddSetValue) (way : TightEdge) (old new : List MatchValue) → Augments (place 0 1) met way tree old new
    → (count 3 (match_members new) ≡ count 3 (match_members old) + count 3 met.members + 1)
    × (count 6 (match_members new) ≡ count 6 (match_members old) + count 6 met.members + 1)
    × (Each IsMatch old → Each IsMatch new)
    × ((F : List DualSet → ℕ) → IsAdditive F → F (match_dual_sets new)
    ≡ F (match_dual_sets old) + F (dual_sets met) + F (dual_sets (place 0 1)) + F (branch_dual_sets tree))
    × ((d : TableValue) (h : ℕ → ℕ) → IsTight d h way → IsSoundSet d h (place 0 1) → IsSoundSet d h met
    → Each (IsSoundBranch d h) tree → Each (IsSoundMatch d h) old → Each (IsSoundMatch d h) new)
known_augmented met way old new does =
    (omega (arith, does.places 3), omega (arith, does.places 6), does.joined, does.sums, does.firm)

-- one step of it takes the last branch, and the rest does the rest
pub known_step : (hand next root : OddSetValue) (way on : TightEdge) (b : BranchValue) (c : MatchValue) (new : List MatchValue)
    → PairsBranch hand way b c next on
    → (CanAugment hand way root (tree ++ b ∷ []) → CanAugment next on root tree)
    × (CanAugment hand way root (tree ++ b ∷ []) → Augments root next on tree (c ∷ []) new → Augments root hand way (tree ++ b ∷ []) [] new)
known_step hand next root way on b c new pairs = (λ can. pairs.can root tree can, λ can does. pairs.does root tree [] new can does)
