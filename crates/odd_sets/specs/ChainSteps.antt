-- The chain of parts that shrinking extends at both ends, along the branches of the tree.
use Rattle.std.specs.Prelude.{◌≡◌, List, [], ◌∷◌, ◌++◌}
use Rattle.odd_sets.specs.DualSets.{OddSetValue}
use Rattle.odd_sets.specs.Shrinks.{IsOpenChain, CanShrink}
use Rattle.odd_sets.specs.Slots.{branch_in, branches_in, parts_in, Slots}
use Rattle.odd_sets.specs.Values.{BranchValue}
use Rattle.odd_sets.specs.declared.branches.Branch.{Branch}
use Rattle.odd_sets.specs.declared.odd_set.TightEdge.{TightEdge}
use Rattle.odd_sets.specs.declared.shrinking.Chain.{Chain}

-- The loop invariant of shrinking, over the sets of a slab.
abbrev pub IsOpenChainIn : Slots → TightEdge → OddSetValue → List BranchValue → List BranchValue
    → Chain
    → List Branch → Type 0
IsOpenChainIn sets link root tree left chain aside = IsOpenChain link root tree left
    (parts_in sets chain.parts.items) (branches_in sets aside) chain.way chain.to

-- One step of shrinking: the last branch that is left extends the chain, or is set aside.
pub record ExtendsChain (sets : Slots) (b : Branch) (old : Chain) (was : List Branch) (new : Chain)
    (now : List Branch) : Type 0 where
  pub goes : (link : TightEdge) (root : OddSetValue) (tree left bs : List BranchValue)
      → CanShrink link root tree → left ≡ bs ++ branch_in sets b ∷ []
      → IsOpenChainIn sets link root tree left old was
      → IsOpenChainIn sets link root tree bs new now
