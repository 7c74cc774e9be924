-- The result of writing a design as a PEC block: a header, the records of its acts in order, their
-- end, and blank thumbnails.
use Rattle.std.specs.Prelude.{ℕ, ◌+◌, ◌-◌, ◌*◌, List, [], ◌∷◌, ◌++◌, length, replicate, Some, None, Result}
use Rattle.std.specs.List.{concat}
use Rattle.design_model.specs.Acts.{acts_of}
use Rattle.design_model.specs.Designs.{DesignValue}
use Rattle.format_traits.specs.declared.fault.WriteFault.{WriteFault}
use Rattle.format_traits.specs.declared.encoder_state.WriteLimits.{WriteLimits}
use Rattle.format_traits.specs.Refusals.{first_refusal, stops_of, unless_refused}
use Rattle.record_formats.specs.RecordEncodings.{RecordEncoding, records_of_acts}
use Rattle.pec_codec.specs.declared.block.TheConstants.{HEADER_LENGTH, LABELS_LENGTH, LIMIT, MAX_STOPS, THUMBNAIL_LENGTH}
use Rattle.pec_codec.specs.Header.{pec_header_of}
use Rattle.pec_codec.specs.RecordBytes.{pec_end_record, pec_jump_record, pec_stitch_record, pec_stop_record, pec_trim_record}

-- The limits of what a PEC block can contain.
abbrev pub pec_write_limits : WriteLimits
pec_write_limits = record { limit = LIMIT; float_hops = None; stops = Some MAX_STOPS }

-- The bytes of the records of a PEC block.
abbrev pub pec_encoding : RecordEncoding
pec_encoding = record {
  stitch = pec_stitch_record;
  jump = pec_jump_record;
  trim = pec_trim_record ∷ [];
  stop =
      pec_stop_record;
}

-- The records of a design's acts, and their end.
abbrev pub pec_body_of : DesignValue → List ℕ
pec_body_of d = concat (records_of_acts pec_encoding pec_write_limits (acts_of d)) ++ pec_end_record

-- The thumbnails of a design with `stops` stops: one of the entire design and one of each colour
-- block, all blank.
abbrev pub thumbnails_of : ℕ → List ℕ
thumbnails_of stops = replicate (THUMBNAIL_LENGTH * (stops + 2)) 0

-- The distance to the thumbnails, counted from the second part of the header.
abbrev pub thumbnail_distance : List ℕ → ℕ
thumbnail_distance body = HEADER_LENGTH - LABELS_LENGTH + length body

-- The PEC block of a design.
abbrev pub pec_block_of : DesignValue → List ℕ
pec_block_of d = pec_header_of d (stops_of (acts_of d)) (thumbnail_distance (pec_body_of d))
    ++ pec_body_of d ++ thumbnails_of (stops_of (acts_of d))

-- The result of writing a design: the PEC block, or the first refusal of its acts.
abbrev pub pec_block_writes : DesignValue → Result (List ℕ) WriteFault
pec_block_writes d = unless_refused (first_refusal pec_write_limits (acts_of d)) (pec_block_of d)
