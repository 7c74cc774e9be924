-- Needles of blocks, where a block is begun.
use Rattle.std.proofs.Common.{◌≡◌, ℕ, ◌+◌, Bool, List, [], ◌∷◌, ◌++◌, length, refl, ap, sym, ◌∙◌, arith, append_assoc, add-zero, zero-add}
use Rattle.std.proofs.lemmas.List.{length-map}
use Rattle.std.proofs.lemmas.List.Sums.{sum_by-cons}
use Rattle.std.specs.Prelude.{map}
use Rattle.design_model.proofs.Names.{nat_tests, count_by, if◌then◌else◌, Act, NumberedAct, numbered, blocks_of, continued_block_counts, with_act_in_first_block, needles_by_block, with_needles_in_first_block}
use Rattle.design_model.specs.declared.act.Act.TheVariants as act
use Rattle.design_model.specs.ActKinds.{is_needle, is_stop}

-- The blocks of an act and of the acts after it start with a block, to which no needle is added.
none_more_in : (a : NumberedAct) (stops : Bool) (later : List (List NumberedAct))
    → let blocks : List (List NumberedAct) = if stops then [] ∷ later else with_act_in_first_block a later in
    with_needles_in_first_block 0 (map (count_by is_needle) blocks) ≡ map (count_by is_needle) blocks
none_more_in a stops later = grind (arith, nat_tests, zero-add)

-- no needle more in the first block
none_more : (acts : List NumberedAct) → with_needles_in_first_block 0 (needles_by_block acts) ≡ needles_by_block acts
none_more [] = refl
none_more (a ∷ rest) = none_more_in a (is_stop a) (blocks_of rest)

-- at the beginning no block ended, and the first has no needle
pub carried_first : (acts : List NumberedAct) → continued_block_counts [] 0 acts ≡ needles_by_block acts
carried_first acts = none_more acts

-- A stop appends the count of its block to the others, and starts the next block.
pub carried_stop : (before after : List ℕ) (needles : ℕ) (a : Act) → after ≡ before ++ needles ∷ [] → a ≡ act.Stop
    → (n : ℕ) (rest : List NumberedAct) → continued_block_counts after 0 rest ≡ continued_block_counts before needles (numbered n a ∷ rest)
carried_stop before after needles a pushed stop n rest =
    rw (pushed, stop) (simp (append_assoc, none_more rest, add-zero))

-- An act adds one block if it is a stop.
length-parted : (a : NumberedAct) (stops : Bool) (later : List (List NumberedAct)) (count : ℕ) → length later ≡ count + 1
    → length (if stops then [] ∷ later else with_act_in_first_block a later) ≡ (if stops then 1 else 0) + count + 1
length-parted a stops later count h1 = grind (arith, nat_tests)

-- there is one block more than stops
length-blocks_of : (acts : List NumberedAct) → length (blocks_of acts) ≡ count_by is_stop acts + 1
length-blocks_of [] = refl
length-blocks_of (a ∷ rest) =
    length-parted a (is_stop a) (blocks_of rest) (count_by is_stop rest) (length-blocks_of rest)
    ∙ ap (λ n. n + 1) (sym (sum_by-cons (λ x. if is_stop x then 1 else 0) a rest))

-- the same of the numbers of the blocks
pub blocks_by_stops : (needles : List ℕ) (acts : List NumberedAct) → needles ≡ needles_by_block acts
    → length needles ≡ count_by is_stop acts + 1
blocks_by_stops needles acts is = grind (arith, nat_tests, length-map, length-blocks_of)
