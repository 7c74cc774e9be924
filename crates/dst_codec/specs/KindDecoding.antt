-- Decoding of a record of three bytes, once its kind and its move are known.
use Rattle.std.specs.Prelude.{◌≡◌, ℕ, Bool, true, false, IsTrue}
use Rattle.std.specs.List.{list_all}
use Rattle.design_model.specs.declared.point.Point.{Point}
use Rattle.design_model.specs.Points.{is_point_within}
use Rattle.record_formats.specs.declared.record_reader.NextRecord.{NextRecord}
use Rattle.record_formats.specs.declared.record_reader.NextRecord.TheVariants as cut
use Rattle.record_formats.specs.declared.record_reader.TheConstants.{MAX_RECORD_MOVE}
use Rattle.record_formats.specs.Records.{Records, moves_of_event, over, refused, next}
use Rattle.dst_codec.specs.declared.record_kind.RecordKind.{RecordKind}
use Rattle.dst_codec.specs.declared.record_kind.RecordKind.TheVariants as kind
use Rattle.dst_codec.specs.Reading.{record_of_kind}

-- True for a record that is neither a stitch nor a jump.
abbrev pub is_stop_sequin_or_end : RecordKind → Bool
is_stop_sequin_or_end kind.Stitch = false
is_stop_sequin_or_end kind.Jump = false
is_stop_sequin_or_end kind.Stop = true
is_stop_sequin_or_end kind.Sequin = true
is_stop_sequin_or_end kind.End = true

-- Meaning of an answer about a record of that kind and move, whatever records follow.
abbrev pub DecodesRecordAs : RecordKind → ℕ → ℕ → Point → NextRecord → Type 0
DecodesRecordAs k at run m cut.End = (rest : Records) → record_of_kind k at run m rest ≡ over true
DecodesRecordAs k at run m (cut.Incomplete ended) = ⊥
DecodesRecordAs k at run m (cut.Refused f) = (rest : Records)
    → record_of_kind k at run m rest ≡ refused f
DecodesRecordAs k at run m (cut.Record event size) = (size ≡ 3)
    × IsTrue (list_all (λ move. is_point_within MAX_RECORD_MOVE move) (moves_of_event event))
    × ((rest : Records) → record_of_kind k at run m rest ≡ next at event rest)
