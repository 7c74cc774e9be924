-- Properties of the stitch list beyond the laws of all formats: each design has one canonical text,
-- which keeps its label and threads.
use Rattle.std.specs.Prelude.{◌≡◌, ◌≢◌, ◌↔◌, ℕ, ◌<◌, ◌≤◌, List, All, Ok, Err, IsOk, IsOkAnd}
use Rattle.design_model.specs.Acts.{acts_of}
use Rattle.design_model.specs.Designs.{DesignValue, KeepsLimits, thread_of}
use Rattle.format_traits.specs.declared.fault.WriteFault.TheVariants as fault
use Rattle.format_traits.specs.declared.loaded.Loaded.{Loaded}
use Rattle.format_traits.specs.Refusals.{stops_of}
use Rattle.stitch_text.specs.Readings.{list_reads}
use Rattle.stitch_text.specs.StitchLists.{list_writes}

-- A loaded design with the label of the design d, and with the thread of each of its blocks.
pub record HasLabelAndThreads (d : DesignValue) (loaded : Loaded) : Type 0 where
  pub label : loaded.design.label ≡ d.label
  pub threads : (block : ℕ) → block ≤ stops_of (acts_of d)
      → thread_of loaded.design block ≡ thread_of d block

-- Theorem: the list of a design, whose threads are bytes, reads back with the label and the
-- threads.
abbrev pub LabelAndThreadsRoundTrip : Type 0
LabelAndThreadsRoundTrip = (d : DesignValue) (text : List ℕ) → KeepsLimits d
    → All (λ thread. thread < 256) d.threads → list_writes d ≡ Ok text
    → IsOkAnd (list_reads text) (λ loaded. HasLabelAndThreads d loaded)

-- The text is the canonical text of the design d, which is within its limits.
pub record IsTextOf (text : List ℕ) (d : DesignValue) : Type 0 where
  pub limits : KeepsLimits d
  pub written : list_writes d ≡ Ok text

-- Theorem: a text that reads as a design is the canonical text of that design.
abbrev pub ReadsAsWritten : Type 0
ReadsAsWritten = (text : List ℕ) (loaded : Loaded) → list_reads text ≡ Ok loaded
    → IsTextOf text loaded.design

-- Theorem: a text reads as a design exactly where it is the canonical text of some design.
abbrev pub ReadsWhereWritten : Type 0
ReadsWhereWritten = (text : List ℕ) → IsOk (list_reads text) ↔ ((d : DesignValue) × IsTextOf text d)

-- Theorem: no design is refused for a float.
abbrev pub NoFloatIsTooLong : Type 0
NoFloatIsTooLong = (d : DesignValue) (number : ℕ) → list_writes d ≢ Err (fault.FloatTooLong number)
