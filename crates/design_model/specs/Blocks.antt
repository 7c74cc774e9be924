-- The colour blocks of a design: its acts, split at the stops. Blocks count from 0.
use Rattle.std.specs.Prelude.{ℕ, ◌+◌, List, [], ◌∷◌, ◌++◌, count_by, map, if◌then◌else◌}
use Rattle.design_model.specs.declared.act.NumberedAct.{NumberedAct}
use Rattle.design_model.specs.ActKinds.{is_needle, is_stop}
use Rattle.design_model.specs.Acts.{acts_of}
use Rattle.design_model.specs.Designs.{DesignValue}

-- The blocks with an act put in front of the first block.
abbrev pub with_act_in_first_block : NumberedAct → List (List NumberedAct) → List (List NumberedAct)
with_act_in_first_block a [] = (a ∷ []) ∷ []
with_act_in_first_block a (block ∷ later) = (a ∷ block) ∷ later

-- The blocks of acts. A stop ends a block and belongs to none: n stops make n + 1 blocks.
abbrev pub blocks_of : List NumberedAct → List (List NumberedAct)
blocks_of [] = [] ∷ []
blocks_of (a ∷ rest) = if is_stop a then [] ∷ blocks_of rest else with_act_in_first_block a
    (blocks_of rest)

-- The number of needle acts in each block of acts.
abbrev pub needles_by_block : List NumberedAct → List ℕ
needles_by_block acts = map (count_by is_needle) (blocks_of acts)

-- The number of needle acts in each block of a design.
abbrev pub needles_of_blocks : DesignValue → List ℕ
needles_of_blocks d = needles_by_block (acts_of d)

-- The counts of blocks with a number added to the first.
abbrev pub with_needles_in_first_block : ℕ → List ℕ → List ℕ
with_needles_in_first_block more [] = more ∷ []
with_needles_in_first_block more (needles ∷ later) = (more + needles) ∷ later

-- The counts of the finished blocks, then those of the open block and of further acts.
abbrev pub continued_block_counts : List ℕ → ℕ → List NumberedAct → List ℕ
continued_block_counts ended needles acts = ended
    ++ with_needles_in_first_block needles (needles_by_block acts)
