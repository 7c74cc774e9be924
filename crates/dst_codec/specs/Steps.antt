-- Meanings of the answers of private functions. No public clause uses these definitions.
use Rattle.std.specs.Prelude.{◌≡◌, ◌+◌, List, ◌++◌, ℕ, length, Option, Some, None}
use Rattle.std.specs.List.{concat}
use Rattle.design_model.specs.declared.bounds.Extent.{Extent}
use Rattle.design_model.specs.Acts.{acts_of}
use Rattle.design_model.specs.Designs.{DesignValue}
use Rattle.format_traits.specs.declared.encoder_state.EncoderState.{EncoderState}
use Rattle.format_traits.specs.Refusals.{initial_encoder_state, first_refusal}
use Rattle.format_traits.specs.ActWriting.{encoder_state_after_acts}
use Rattle.dst_codec.specs.declared.dst.TheConstants.{LIMIT}
use Rattle.dst_codec.specs.declared.header.Extents.{Extents}
use Rattle.dst_codec.specs.declared.header.HeaderNumbers.{HeaderNumbers}
use Rattle.dst_codec.specs.declared.header.TheConstants.{HEADER_LENGTH}
use Rattle.dst_codec.specs.Header.{size_above_zero, size_below_zero, numbers_of}
use Rattle.dst_codec.specs.MoveEncoding.{dst_end_record}
use Rattle.dst_codec.specs.Writing.{dst_write_limits, dst_records_of}

-- The records of a design's acts, and the end record.
abbrev pub dst_body_of : DesignValue → List ℕ
dst_body_of d = concat (dst_records_of (acts_of d)) ++ dst_end_record

-- The numbers of a design's header, whose number of records includes the end record.
abbrev pub header_numbers_of : DesignValue → HeaderNumbers
header_numbers_of d = numbers_of (acts_of d) (length (dst_records_of (acts_of d)) + 1)

-- The distances of an extent from the origin, in four directions; all are 0 without an extent.
abbrev pub extents_from_origin : Option Extent → Extents
extents_from_origin None = record { right = 0; left = 0; up = 0; down = 0 }
extents_from_origin (Some extent) = record {
  right = size_above_zero extent.max.x;
  left = size_below_zero extent.min.x;
  up = size_below_zero extent.min.y;
  down = size_above_zero extent.max.y;
}

-- The design was not refused, `state` is the encoder's state after its acts, and `count` is the
-- length of its file.
pub record IsWritten (d : DesignValue) (state : EncoderState) (count : ℕ) : Type 0 where
  pub passed : first_refusal dst_write_limits (acts_of d) ≡ None
  pub stands : state ≡ encoder_state_after_acts LIMIT initial_encoder_state (acts_of d)
  pub long : count ≡ HEADER_LENGTH + length (dst_body_of d)
