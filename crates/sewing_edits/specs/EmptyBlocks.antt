-- Designs without their blocks that have no needle. Own rules: the threads of the blocks that stay
-- are stored, up to the greatest number of threads. A design without any needle has no act then.
use Rattle.std.specs.Prelude.{◌≡◌, ℕ, zero, suc, ◌+◌, Bool, List, [], ◌∷◌, ◌++◌, filter, take}
use Rattle.std.specs.List.{list_any}
use Rattle.design_model.specs.declared.act.Act.{Act}
use Rattle.design_model.specs.declared.act.Act.TheVariants as act
use Rattle.design_model.specs.declared.design.TheConstants.{MAX_THREADS}
use Rattle.design_model.specs.ActKinds.{is_bare_needle}
use Rattle.design_model.specs.Blocks.{needles_of_blocks}
use Rattle.design_model.specs.Designs.{DesignValue, thread_of}

-- The blocks with an act put in front of the first one.
abbrev pub with_first_act : Act → List (List Act) → List (List Act)
with_first_act a [] = (a ∷ []) ∷ []
with_first_act a (block ∷ later) = (a ∷ block) ∷ later

-- The blocks of acts without numbers. A stop ends a block and belongs to none.
abbrev pub act_blocks : List Act → List (List Act)
act_blocks [] = [] ∷ []
act_blocks (act.Needle p float ∷ rest) = with_first_act (act.Needle p float) (act_blocks rest)
act_blocks (act.Trim ∷ rest) = with_first_act act.Trim (act_blocks rest)
act_blocks (act.Stop ∷ rest) = [] ∷ act_blocks rest

-- The test whether a block has a needle act.
abbrev pub has_needle : List Act → Bool
has_needle block = list_any is_bare_needle block

-- The acts of blocks, each after a stop.
abbrev pub acts_after_stops : List (List Act) → List Act
acts_after_stops [] = []
acts_after_stops (block ∷ later) = act.Stop ∷ (block ++ acts_after_stops later)

-- The acts of blocks, with a stop between each two.
abbrev pub acts_of_blocks : List (List Act) → List Act
acts_of_blocks [] = []
acts_of_blocks (block ∷ later) = block ++ acts_after_stops later

-- The blocks that have a needle.
abbrev pub needled_blocks : List Act → List (List Act)
needled_blocks acts = filter has_needle (act_blocks acts)

-- The acts without the blocks that have no needle.
abbrev pub needled_acts : List Act → List Act
needled_acts acts = acts_of_blocks (needled_blocks acts)

-- The threads of the blocks that have a needle, given the needles of each block from one on.
abbrev pub needled_threads_from : DesignValue → (block : ℕ) → List ℕ → List ℕ
needled_threads_from d block [] = []
needled_threads_from d block (zero ∷ later) = needled_threads_from d (block + 1) later
needled_threads_from d block (suc needles ∷ later) =
    thread_of d block ∷ needled_threads_from d (block + 1) later

-- The threads of the blocks that have a needle, as many as a design may store.
abbrev pub needled_threads : DesignValue → List ℕ
needled_threads d = take MAX_THREADS (needled_threads_from d 0 (needles_of_blocks d))

-- The label, and the threads of the blocks that have a needle.
abbrev pub with_needled_threads : DesignValue → DesignValue
with_needled_threads d = record d { threads = needled_threads d }

-- Exactly the blocks that have a needle stay, if there is one.
abbrev pub NeedledBlocksStay : Type 0
NeedledBlocksStay = (acts : List Act) (first : List Act) (later : List (List Act))
    → needled_blocks acts ≡ first ∷ later → act_blocks (needled_acts acts) ≡ first ∷ later
