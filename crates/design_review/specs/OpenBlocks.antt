-- Summaries of blocks while they grow act by act. No public clause cites this file.
use Rattle.std.specs.Prelude.{ℕ, ◌+◌, ◌*◌, ◌^◌, ◌≤◌, Bool, List, [], ◌∷◌, ◌++◌, None, count_by, fold, map, max, if◌then◌else◌}
use Rattle.design_model.specs.declared.act.NumberedAct.{NumberedAct}
use Rattle.design_model.specs.ActKinds.{is_needle}
use Rattle.design_model.specs.Blocks.{blocks_of}
use Rattle.design_review.specs.declared.open_block.BlockSummary.{BlockSummary}
use Rattle.design_review.specs.declared.open_block.OpenBlock.{OpenBlock}
use Rattle.design_review.specs.BlockSummaries.{lengths_of_stitches, lesser_length, spans_after, summary_of_block}

-- The summary of a block without an act.
abbrev pub empty_summary : BlockSummary
empty_summary = record { needles = 0; length = 0; shortest = None; longest = 0 }

-- A block without an act.
abbrev pub empty_block : OpenBlock
empty_block = record { summary = empty_summary; before = None }

-- The summary of a block with the thread of one more span. Its needle isn't counted yet.
abbrev pub summary_with_thread : BlockSummary → ℕ → BlockSummary
summary_with_thread s length = record s { length = s.length + length }

-- The summary of a block with one more stitch, of that length.
abbrev pub summary_with_stitch : BlockSummary → ℕ → BlockSummary
summary_with_stitch s length = record s {
  shortest = lesser_length s.shortest length;
  longest = max s.longest length;
}

-- The summary of a block with one more span.
abbrev pub summary_with_span : BlockSummary → Bool → ℕ → BlockSummary
summary_with_span s float length = if float then summary_with_thread s length
    else summary_with_stitch (summary_with_thread s length) length

-- The summary of an open block with further acts.
abbrev pub continued_summary : OpenBlock → List NumberedAct → BlockSummary
continued_summary block acts = record {
  needles = block.summary.needles + count_by is_needle acts;
  length = fold (λ sum s. sum + s.length) block.summary.length (spans_after block.before acts);
  shortest = fold lesser_length block.summary.shortest
      (lengths_of_stitches (spans_after block.before acts));
  longest = fold max block.summary.longest (lengths_of_stitches (spans_after block.before acts));
}

-- The summaries of blocks, of which the first continues an open block.
abbrev pub continued_blocks : OpenBlock → List (List NumberedAct) → List BlockSummary
continued_blocks block [] = block.summary ∷ []
continued_blocks block (acts ∷ later) = continued_summary block acts ∷ map summary_of_block later

-- The summaries of the blocks that ended, then of the open one and of further acts.
abbrev pub with_blocks : List BlockSummary → OpenBlock → List NumberedAct → List BlockSummary
with_blocks ended block acts = ended ++ continued_blocks block (blocks_of acts)

-- The length of a summary is below 2 ^ 64 for each needle.
pub record HasSmallLength (s : BlockSummary) : Type 0 where
  pub length : s.length ≤ s.needles * 2 ^ 64
