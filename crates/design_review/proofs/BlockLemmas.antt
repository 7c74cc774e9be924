-- Summaries of blocks that grow act by act.
use Rattle.std.proofs.Common.{◌≡◌, ◌∙◌, ℕ, Bool, true, false, List, [], ◌∷◌, ◌++◌, Option, map, refl, ap, sym, append_assoc, zero-add, arith}
use Rattle.std.specs.Prelude.{count_by, if◌then◌else◌}
use Rattle.design_model.specs.declared.act.Act.{Act}
use Rattle.design_model.specs.declared.act.Act.TheVariants as act
use Rattle.design_model.specs.declared.act.NumberedAct.{NumberedAct}
use Rattle.design_model.specs.ActKinds.{is_needle, is_stop}
use Rattle.design_model.specs.Acts.{numbered}
use Rattle.design_model.specs.Blocks.{blocks_of, with_act_in_first_block}
use Rattle.design_review.specs.declared.open_block.BlockSummary.{BlockSummary}
use Rattle.design_review.specs.declared.open_block.OpenBlock.{OpenBlock}
use Rattle.design_review.specs.BlockSummaries.{summary_of_block}
use Rattle.design_review.specs.OpenBlocks.{continued_blocks, continued_summary, empty_block, with_blocks}

-- a summary by its parts
same_parts : (n m : ℕ) (l k : ℕ) (s t : Option ℕ) (g h : ℕ) → n ≡ m → l ≡ k → s ≡ t → g ≡ h
    → (let a : BlockSummary = record { needles = n; length = l; shortest = s; longest = g } in a)
    ≡ (let b : BlockSummary = record { needles = m; length = k; shortest = t; longest = h } in b)
same_parts n m l k s t g h one two three four = cc

-- a block that nothing precedes
pub begun : (acts : List NumberedAct) → continued_summary empty_block acts ≡ summary_of_block acts
begun acts = same_parts _ _ _ _ _ _ _ _ (zero-add (count_by is_needle acts)) refl refl refl

-- the first of some blocks continues a block without an act
begun_blocks : (acts : List NumberedAct) → continued_blocks empty_block (blocks_of acts) ≡ map summary_of_block (blocks_of acts)
begun_blocks [] = ap (λ (s : BlockSummary). s ∷ []) (begun [])
begun_blocks (a ∷ rest) = by_stop (is_stop a) (blocks_of rest)
  where
    by_stop : (stops : Bool) (later : List (List NumberedAct))
        → continued_blocks empty_block (if stops then [] ∷ later else with_act_in_first_block a later)
        ≡ map summary_of_block (if stops then [] ∷ later else with_act_in_first_block a later)
    by_stop true later = ap (λ (s : BlockSummary). s ∷ map summary_of_block later) (begun [])
    by_stop false [] = ap (λ (s : BlockSummary). s ∷ []) (begun (a ∷ []))
    by_stop false (first ∷ later) = ap (λ (s : BlockSummary). s ∷ map summary_of_block later) (begun (a ∷ first))

-- at the beginning no block ended
pub all_blocks : (acts : List NumberedAct) → with_blocks [] empty_block acts ≡ map summary_of_block (blocks_of acts)
all_blocks acts = begun_blocks acts

-- a stop ends a block, and begins another
pub stopped : (ended after : List BlockSummary) (block : OpenBlock) (a : Act) → a ≡ act.Stop → after ≡ ended ++ block.summary ∷ []
    → (n : ℕ) (rest : List NumberedAct) → with_blocks after empty_block rest ≡ with_blocks ended block (numbered n a ∷ rest)
stopped ended after block a stop pushed n rest = rw (pushed, stop) (
    append_assoc ended (block.summary ∷ []) (continued_blocks empty_block (blocks_of rest))
    ∙ ap (λ (bs : List BlockSummary). ended ++ block.summary ∷ bs) (begun_blocks rest)
    ∙ ap (λ (s : BlockSummary). ended ++ s ∷ map summary_of_block (blocks_of rest)) (sym (unchanged block)))
  where
    unchanged : (b : OpenBlock) → continued_summary b [] ≡ b.summary
    unchanged b = same_parts _ _ _ _ _ _ _ _ (omega arith) refl refl refl

-- an act that isn't a stop is the next of the open block
pub act_next : (ended : List BlockSummary) (block next : OpenBlock) (n : ℕ) (a : Act) → is_stop (numbered n a) ≡ false
    → ((acts : List NumberedAct) → continued_summary next acts ≡ continued_summary block (numbered n a ∷ acts))
    → (rest : List NumberedAct) → with_blocks ended next rest ≡ with_blocks ended block (numbered n a ∷ rest)
act_next ended block next n a no_stop more rest = ap (λ (bs : List BlockSummary). ended ++ bs) (by_blocks (blocks_of rest)
    ∙ ap (λ (t : Bool). continued_blocks block
    (if t then [] ∷ blocks_of rest else with_act_in_first_block (numbered n a) (blocks_of rest))) (sym no_stop))
  where
    by_blocks : (blocks : List (List NumberedAct)) → continued_blocks next blocks
        ≡ continued_blocks block (with_act_in_first_block (numbered n a) blocks)
    by_blocks [] = ap (λ (s : BlockSummary). s ∷ []) (alone ∙ more [])
      where
        alone : next.summary ≡ continued_summary next []
        alone = same_parts _ _ _ _ _ _ _ _ (omega arith) refl refl refl
    by_blocks (first ∷ later) = ap (λ (s : BlockSummary). s ∷ map summary_of_block later) (more first)
