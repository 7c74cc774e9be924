-- The result of writing a design as a DST file: a header, the records of its acts in order, and the
-- end record.
use Rattle.std.specs.Prelude.{ℕ, ◌+◌, List, ◌++◌, length, Some, Result}
use Rattle.std.specs.List.{concat}
use Rattle.design_model.specs.declared.act.NumberedAct.{NumberedAct}
use Rattle.design_model.specs.Acts.{acts_of}
use Rattle.design_model.specs.Designs.{DesignValue}
use Rattle.format_traits.specs.declared.fault.WriteFault.{WriteFault}
use Rattle.format_traits.specs.declared.encoder_state.WriteLimits.{WriteLimits}
use Rattle.format_traits.specs.Refusals.{first_refusal, unless_refused}
use Rattle.record_formats.specs.RecordEncodings.{RecordEncoding, records_of_acts}
use Rattle.dst_codec.specs.declared.dst.TheConstants.{LIMIT, MAX_FLOAT_HOPS, MAX_STOPS}
use Rattle.dst_codec.specs.Header.{header}
use Rattle.dst_codec.specs.MoveEncoding.{dst_stitch_record, dst_jump_record, dst_trim_records, dst_stop_record, dst_end_record}

-- The limits of what a DST file can contain.
abbrev pub dst_write_limits : WriteLimits
dst_write_limits = record {
  limit = LIMIT;
  float_hops = Some MAX_FLOAT_HOPS;
  stops = Some MAX_STOPS;
}

-- The bytes of the records of a DST file.
abbrev pub dst_encoding : RecordEncoding
dst_encoding = record {
  stitch = dst_stitch_record;
  jump = dst_jump_record;
  trim = dst_trim_records;
  stop = λ before. dst_stop_record;
}

-- The records of a design's acts in a DST file.
abbrev pub dst_records_of : List NumberedAct → List (List ℕ)
dst_records_of acts = records_of_acts dst_encoding dst_write_limits acts

-- The DST file of a label and acts: the header, whose number of records includes the end record,
-- the records and the end record.
abbrev pub dst_file_of : List ℕ → List NumberedAct → List ℕ
dst_file_of label acts = header label acts (length (dst_records_of acts) + 1)
    ++ concat (dst_records_of acts)
    ++ dst_end_record

-- The result of writing a design: the DST file, or the first refusal of its acts.
abbrev pub dst_writes : DesignValue → Result (List ℕ) WriteFault
dst_writes d = unless_refused (first_refusal dst_write_limits (acts_of d))
    (dst_file_of d.label (acts_of d))
