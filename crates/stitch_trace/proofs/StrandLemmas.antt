-- Blocks one after another.
use Rattle.std.proofs.Common.{◌≡◌, ℕ, ◌+◌, ◌<◌, List, [], ◌∷◌, ◌++◌, length, get_or, drop, refl, arith, append_assoc}
use Rattle.stitch_trace.proofs.Names.{nat_tests, DesignValue, NumberedAct, Strand, is_stop, blocks_of, with_act_in_first_block, onto_first, slice_split, chains_of, strand_of, strands_from, thread_of, at_drop_more}

onto_block : (a : NumberedAct) (blocks : List (List NumberedAct)) → onto_first a blocks ≡ with_act_in_first_block a blocks
onto_block a [] = refl
onto_block a (block ∷ later) = refl

-- the blocks are what the stops part
pub blocks_split : (acts : List NumberedAct) → slice_split is_stop acts ≡ blocks_of acts
blocks_split [] = refl
blocks_split (a ∷ rest) = grind (arith, nat_tests, blocks_split rest, onto_block)

pub strands_next : (d : DesignValue) (acts block : List NumberedAct) (n : ℕ) (before after all : List Strand)
    → (n < length (slice_split is_stop acts)) × (block ≡ get_or (slice_split is_stop acts) n block)
    → after ≡ before ++ strand_of (thread_of d n) (chains_of block) → before ++ strands_from d n (drop n (blocks_of acts)) ≡ all
    → after ++ strands_from d (n + 1) (drop (n + 1) (blocks_of acts)) ≡ all
strands_next d acts block n before after all turn put so_far =
    grind (arith, nat_tests, blocks_split acts, at_drop_more (strands_from d n) (blocks_of acts) n block, append_assoc)
