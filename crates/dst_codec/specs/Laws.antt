-- Properties of the DST format beyond the laws of all formats.
use Rattle.std.specs.Prelude.{◌≡◌, ◌≢◌, ℕ, List, Err, IfOk, IsOkAnd}
use Rattle.design_model.specs.Designs.{DesignValue, KeepsLimits}
use Rattle.format_traits.specs.declared.fault.WriteFault.TheVariants as fault
use Rattle.dst_codec.specs.Reading.{dst_reads}
use Rattle.dst_codec.specs.Writing.{dst_writes}

-- Theorem: the label of a written design is read back.
abbrev pub LabelRoundTrips : Type 0
LabelRoundTrips = (d : DesignValue) → KeepsLimits d
    → IfOk (dst_writes d) (λ bytes. IsOkAnd (dst_reads bytes) (λ loaded. loaded.design.label
    ≡ d.label))

-- Theorem: a design that was read has no stitch and no float that is too long to be written.
abbrev pub ReadMovesAreWritable : Type 0
ReadMovesAreWritable = (bytes : List ℕ) → IfOk (dst_reads bytes) (λ loaded. (number : ℕ)
    → (dst_writes loaded.design ≢ Err (fault.StitchTooLong number))
    × (dst_writes loaded.design ≢ Err (fault.FloatTooLong number)))
