-- What the steps of reading and writing a DST file state, and the numbers of its header.
use Rattle.std.proofs.Common.{◌≡◌, ◌<◌, ℕ, ℤ, pos, negsuc, true, false, [], ◌∷◌, None, Some, map, unsigned_abs, refl, sym, true≢false}
use Rattle.design_model.specs.declared.command.Command.TheVariants as command
use Rattle.dst_codec.specs.KindDecoding.{DecodesRecordAs, is_stop_sequin_or_end}
use Rattle.dst_codec.specs.declared.record_kind.RecordKind.TheVariants as kind
use Rattle.format_traits.specs.declared.fault.ReadFault.{ReadFault}
use Rattle.format_traits.specs.declared.fault.ReadFault.TheVariants as fault
use Rattle.format_traits.specs.declared.fault.WriteFault.TheVariants as write
use Rattle.record_formats.specs.declared.event.Event.{Event}
use Rattle.record_formats.specs.declared.event.Event.TheVariants as event
use Rattle.record_formats.specs.declared.record_reader.NextRecord.TheVariants as cut
use Rattle.record_formats.specs.Records.{refused}
use Rattle.dst_codec.proofs.Names.{DesignValue, EncoderState, FitsFields, HeaderNumbers, IsWritten, Point, Records, dst_body_of, header_numbers_of, next, over}

abbrev point : ℤ → ℤ → Point
point x y = record { x = x; y = y }

-- stitches at (0, 0) and (30, -5), a trim of three records, and a stop
abbrev design : DesignValue
design = record {
  label = [];
  threads = [];
  commands = command.Stitch (point (pos 0) (pos 0)) ∷ command.Stitch (point (pos 30) (negsuc 4)) ∷ command.Trim ∷ command.Stop ∷ [];
}

-- the end is a record as well; the needles reach 30 to the right and 5 upwards
pub known_header_numbers : header_numbers_of design ≡ record {
  records = 7;
  stops = 1;
  extents = record { right = 30; left = 0; up = 5; down = 0 };
  last = point (pos 30) (negsuc 4);
}
known_header_numbers = refl

-- a stitch in place, one of 30 to the right, and the end
pub known_body : dst_body_of (record design {
  commands = command.Stitch (point (pos 0) (pos 0)) ∷ command.Stitch (point (pos 30) (pos 0)) ∷ [];
}) ≡ 0x00 ∷ 0x00 ∷ 0x03 ∷ 0x00 ∷ 0x05 ∷ 0x03 ∷ 0x00 ∷ 0x00 ∷ 0xF3 ∷ []
known_body = refl

-- the file has 512 bytes and three for each of its seven records
pub known_written : (state : EncoderState) (count : ℕ) → IsWritten design state count
    → (state ≡ record { loose = true; place = point (pos 30) (negsuc 4); stops = 1; room = 7 }) × (count ≡ 533)
known_written state count is = (is.stands, is.long)

-- a stitch of 122 is refused
pub known_not_written : (state : EncoderState) (count : ℕ)
    → IsWritten (record design {
      commands = command.Stitch (point (pos 0) (pos 0)) ∷ command.Stitch
          (point (pos 122) (pos 0)) ∷ [];
    }) state count
    → ⊥
known_not_written state count is = some is.passed
  where
    some : Some (write.StitchTooLong 2) ≡ None → ⊥
    some none = cc

-- how many digits each number of a header has
pub known_fields : (n : HeaderNumbers) → FitsFields n
    → (n.records < 10000000) × (n.stops < 1000) × (n.extents.right < 100000) × (n.extents.left < 100000)
    × (n.extents.up < 100000) × (n.extents.down < 100000) × (unsigned_abs n.last.x < 100000) × (unsigned_abs n.last.y < 100000)
known_fields n fits = (fits.records, fits.stops, fits.right, fits.left, fits.up, fits.down, fits.x, fits.y)

pub known_kinds : map is_stop_sequin_or_end (kind.Stitch ∷ kind.Jump ∷ kind.Stop ∷ kind.Sequin ∷ kind.End ∷ [])
    ≡ false ∷ false ∷ true ∷ true ∷ true ∷ []
known_kinds = refl

-- a stop by a move has three bytes, and that event; the third jump of a run cuts the thread
pub known_record : (e : Event) (size : ℕ) (m : Point) (rest : Records)
    → (DecodesRecordAs kind.Stop 7 0 m (cut.Record e size) → (size ≡ 3) × (next 7 (event.StopBy m) rest ≡ next 7 e rest))
    × (DecodesRecordAs kind.Jump 7 2 m (cut.Record e size) → (size ≡ 3) × (next 7 (event.TrimmedJump m) rest ≡ next 7 e rest))
known_record e size m rest = (λ decodes. (decodes.0, decodes.2 rest), λ decodes. (decodes.0, decodes.2 rest))

-- no record is incomplete or moves farther than any may, and a sequin alone is refused
pub known_others : (m : Point) (f : ReadFault)
    → (DecodesRecordAs kind.Stitch 7 0 m (cut.Incomplete true) → ⊥) × (DecodesRecordAs kind.Stitch 7 0 m cut.End → ⊥)
    × (DecodesRecordAs kind.Stitch 7 0 m (cut.Refused f) → ⊥)
    × (DecodesRecordAs kind.Sequin 7 0 m (cut.Refused f) → refused (fault.Sequin 7) ≡ refused f)
    × (DecodesRecordAs kind.Jump 7 0 (point (pos 2049) (pos 0)) (cut.Record (event.Jump (point (pos 2049) (pos 0))) 3) → ⊥)
known_others m f = (
  λ never. never,
  λ ends. no_end (ends (over true)),
  λ refuses. no_refusal (refuses (over true)),
  λ refuses. refuses (over true),
  λ decodes. true≢false (sym decodes.1),
)
  where
    no_end : next 7 (event.Stitch m) (over true) ≡ over true → ⊥
    no_end is = cc

    no_refusal : next 7 (event.Stitch m) (over true) ≡ refused f → ⊥
    no_refusal is = cc
