-- The state of a PEC or PES file that is fed in chunks, at each stage.
use Rattle.std.specs.Prelude.{◌≡◌, ℕ, ◌<◌, ◌≤◌, false, List, [], ◌++◌, length, Result, Err}
use Rattle.format_traits.specs.declared.fault.ReadFault.{ReadFault}
use Rattle.format_traits.specs.declared.fault.ReadFault.TheVariants as fault
use Rattle.format_traits.specs.declared.loaded.Loaded.{Loaded}
use Rattle.format_traits.specs.Feeding.{FeedState, IsSpoiled}
use Rattle.format_traits.specs.Laws.{DecodesTo}
use Rattle.record_formats.specs.Layouts.{layout_decoded, layout_reads}
use Rattle.pec_codec.specs.Reading.{pec_block_layout}
use Rattle.pes_codec.specs.declared.file_stage.FileStage.{FileStage}
use Rattle.pes_codec.specs.declared.file_stage.FileStage.TheVariants as stage
use Rattle.pes_codec.specs.Fronts.{FrontLayout, after_skip, from_front}

-- The state of a file after its front: `skip` bytes come before the block.
abbrev pub block_feed_state : (skip taken : ℕ) → FeedState → FeedState
block_feed_state skip taken block = record {
  spoiled = block.spoiled;
  taken = taken;
  rest = after_skip Err (λ _. block.rest) skip taken;
  decoded = after_skip (λ _. []) (λ _. block.decoded) skip taken;
}

-- What a file gives at a stage, as a function of the remaining bytes. `front` are its first bytes.
abbrev pub file_gives_at : {A : Type 0} → (ReadFault → A) → (ℕ → List ℕ → A) → (List ℕ → A)
    → FrontLayout → List ℕ → FileStage → List ℕ → A
file_gives_at none block behind front_layout front stage.Front more =
    from_front none block front_layout (front ++ more)
file_gives_at none block behind front_layout front stage.Refused more = none (fault.Signature 0)
file_gives_at none block behind front_layout front stage.Behind more = behind more

-- The state of a file at a stage.
abbrev pub file_feed_state : FrontLayout → List ℕ → (taken skip : ℕ) → FeedState → FileStage
    → FeedState
file_feed_state front_layout front taken skip block stage = record {
  spoiled = block.spoiled;
  taken = taken;
  rest = file_gives_at Err (layout_reads pec_block_layout) (block_feed_state skip taken block).rest
      front_layout front stage;
  decoded = file_gives_at (λ _. []) (layout_decoded pec_block_layout)
      (block_feed_state skip taken block).decoded front_layout front stage;
}

-- The state of a file in its front: all bytes fed are in the front, which isn't complete.
pub record IsInFront (front_layout : FrontLayout) (front : List ℕ) (taken : ℕ) (block : FeedState)
    : Type 0 where
  pub few : length front < front_layout.length
  pub all : taken ≡ length front
  pub sound : block.spoiled ≡ false

-- The state of a file after its front: memory runs out in the block alone.
pub record IsBehindFront (taken skip : ℕ) (block : FeedState) : Type 0 where
  pub sound : 0 < skip → block.spoiled ≡ false
  pub most : block.taken ≤ taken

-- What a reader keeps at each stage.
abbrev pub KeepsStage : FrontLayout → List ℕ → (taken skip : ℕ) → FeedState → FileStage → Type 0
KeepsStage front_layout front taken skip block stage.Front = IsInFront front_layout front taken
    block
KeepsStage front_layout front taken skip block stage.Refused = block.spoiled ≡ false
KeepsStage front_layout front taken skip block stage.Behind = IsBehindFront taken skip block

-- Meaning of each answer at the end of a file: the result of what was fed, or out of memory.
abbrev pub AnswersFile : FeedState → Result Loaded ReadFault → FeedState → Type 0
AnswersFile old (Err fault.Memory) new = IsSpoiled old 0 new
AnswersFile old result new = (old.spoiled ≡ false) × DecodesTo (old.rest []) result
