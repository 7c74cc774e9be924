-- The round trip of a PEC block, at any offset of a file.
use Rattle.std.specs.Prelude.{◌≡◌, ℕ, ◌≤◌, List, ◌++◌, length, IfOk, IsOk, IsOkAnd, IsTrue}
use Rattle.std.specs.List.{list_all}
use Rattle.design_model.specs.Acts.{acts_of}
use Rattle.design_model.specs.Designs.{DesignValue, KeepsLimits, thread_of}
use Rattle.design_model.specs.Points.{is_point_within}
use Rattle.format_traits.specs.declared.loaded.Loaded.{Loaded}
use Rattle.format_traits.specs.Laws.{HasSameActs}
use Rattle.format_traits.specs.PlainDesigns.{IsPlain}
use Rattle.format_traits.specs.Refusals.{stops_of}
use Rattle.pec_codec.specs.declared.block.TheConstants.{LIMIT}
use Rattle.pec_codec.specs.Reading.{pec_block_moves, pec_block_reads}
use Rattle.pec_codec.specs.Writing.{pec_block_writes}

-- A loaded design with the acts, the label and the thread of each block of the design d, from a
-- file that has an end.
pub record RestoresDesign (d : DesignValue) (loaded : Loaded) : Type 0 where
  pub again : HasSameActs d loaded
  pub label : loaded.design.label ≡ d.label
  pub threads : (block : ℕ) → block ≤ stops_of (acts_of d) → thread_of loaded.design block
      ≡ thread_of d block

-- A block after other bytes reads as the design, and each of its moves is within the limit.
pub record BlockRoundTrips (d : DesignValue) (block before : List ℕ) : Type 0 where
  pub read : IsOkAnd (pec_block_reads (length before) (before ++ block))
      (λ loaded. RestoresDesign d loaded)
  pub within : IsTrue (list_all (λ move. is_point_within LIMIT move)
      (pec_block_moves (length before) (before ++ block)))

-- The laws of a block for one design: what is written reads back, and a plain design is written.
pub record KeepsBlockLaws (d : DesignValue) : Type 0 where
  pub back : IfOk (pec_block_writes d) (λ block. (before : List ℕ) → BlockRoundTrips d block before)
  pub plain : IsPlain LIMIT d → IsOk (pec_block_writes d)

-- Theorem: the laws of a block hold for every design within its limits.
abbrev pub BlocksKeepLaws : Type 0
BlocksKeepLaws = (d : DesignValue) → KeepsLimits d → KeepsBlockLaws d
