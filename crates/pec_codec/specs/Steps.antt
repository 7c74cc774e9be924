-- Meanings of the answers of private functions. No public clause uses these definitions.
use Rattle.std.specs.Prelude.{◌≡◌, ℕ, ◌<◌, ◌≤◌, List, ◌++◌, length, None, Result, Ok, Err, IsTrue}
use Rattle.std.specs.List.{list_all}
use Rattle.design_model.specs.Acts.{acts_of}
use Rattle.design_model.specs.Designs.{DesignValue}
use Rattle.design_model.specs.Points.{is_point_within}
use Rattle.format_traits.specs.declared.fault.WriteFault.{WriteFault}
use Rattle.record_formats.specs.declared.record_reader.NextRecord.{NextRecord}
use Rattle.record_formats.specs.declared.record_reader.NextRecord.TheVariants as cut
use Rattle.record_formats.specs.declared.record_reader.TheConstants.{MAX_RECORD_MOVE, MAX_RECORD}
use Rattle.record_formats.specs.Records.{moves_of_event}
use Rattle.format_traits.specs.Refusals.{first_refusal, stops_of, IsSpecifiedRefusal}
use Rattle.pec_codec.specs.Writing.{pec_body_of, pec_write_limits}

-- A decoded record is within the bytes, is not empty, and moves no further than any format's
-- records. Where no record is complete, the bytes are few.
abbrev pub RecordFitsBytes : List ℕ → NextRecord → Type 0
RecordFitsBytes bytes cut.End = Unit {0}
RecordFitsBytes bytes (cut.Incomplete ended) = length bytes < MAX_RECORD
RecordFitsBytes bytes (cut.Refused f) = Unit {0}
RecordFitsBytes bytes (cut.Record event size) = (0 < size) × (size ≤ length bytes)
    × IsTrue (list_all (λ move. is_point_within MAX_RECORD_MOVE move) (moves_of_event event))

-- Meaning of each answer of appending the records of a design and their end: the number of its
-- stops, or the refusal.
abbrev pub AppendsBody : DesignValue → List ℕ → Result ℕ WriteFault → List ℕ → Type 0
AppendsBody d old (Ok stops) new = (first_refusal pec_write_limits (acts_of d) ≡ None)
    × (new ≡ old ++ pec_body_of d) × (stops ≡ stops_of (acts_of d))
AppendsBody d old (Err f) new = IsSpecifiedRefusal (first_refusal pec_write_limits (acts_of d)) f
