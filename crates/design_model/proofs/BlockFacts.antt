-- Worked values of the needles of each block.
use Rattle.std.proofs.Common.{◌≡◌, pos, false, [], ◌∷◌, map, refl}
use Rattle.design_model.proofs.Names.{Stitch, Jump, acts_along, acts_without_numbers, blocks_of, needles_by_block, continued_block_counts, with_needles_in_first_block}
use Rattle.design_model.specs.declared.act.Act.TheVariants as act
use Rattle.design_model.specs.declared.command.Command.TheVariants.{Trim, Stop}
use Rattle.design_model.proofs.ActFacts.{at}

-- a design without commands has one block, without needles
pub known_needles_by_block : (needles_by_block (acts_along []) ≡ 0 ∷ [])
    -- Two needles before the stop, and one after it.
    × (needles_by_block (acts_along (Jump (at (pos 9)) ∷ Stitch (at (pos 9)) ∷ Stitch (at (pos 7)) ∷ Trim
    ∷ Stop ∷ Stitch (at (pos 5)) ∷ []))
    ≡ 2 ∷ 1 ∷ [])
    -- stops at both ends and beside one another part blocks without needles
    × (needles_by_block (acts_along (Stop ∷ Stitch (at (pos 1)) ∷ Stop ∷ Trim ∷ Stop ∷ []))
    ≡ 0 ∷ 1 ∷ 0 ∷ 0 ∷ [])
known_needles_by_block = (refl, refl, refl)

-- the acts of blocks in order; the stops are in none
pub known_acts : map acts_without_numbers (blocks_of
    (acts_along (Stitch (at (pos 9)) ∷ Trim ∷ Stop ∷ Stitch (at (pos 5)) ∷ Stitch (at (pos 6)) ∷ [])))
    ≡ (act.Needle (at (pos 9)) false ∷ act.Trim ∷ []) ∷ (act.Needle (at (pos 5)) false ∷ act.Needle (at (pos 6)) false ∷ []) ∷ []
known_acts = refl

-- needles go to the first block; of no blocks that is the only one
pub known_first_block : (with_needles_in_first_block 3 (4 ∷ 5 ∷ []) ≡ 7 ∷ 5 ∷ [])
    × (with_needles_in_first_block 3 [] ≡ 3 ∷ [])
known_first_block = (refl, refl)

-- after blocks of 8 and 2 needles and an open one of 3, one needle ends it, and the next has one
pub known_continued : continued_block_counts (8 ∷ 2 ∷ []) 3 (acts_along (Stitch (at (pos 9)) ∷ Stop ∷ Stitch (at (pos 5)) ∷ []))
    ≡ 8 ∷ 2 ∷ 4 ∷ 1 ∷ []
known_continued = refl
