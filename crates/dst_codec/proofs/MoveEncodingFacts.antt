-- Worked values of records.
use Rattle.std.proofs.Common.{◌≡◌, ℤ, pos, negsuc, [], ◌∷◌, refl}
use Rattle.dst_codec.proofs.Names.{Point, dst_move_of, kind_of, dst_stitch_record, dst_jump_record, dst_end_record, dst_trim_records, dst_stop_record}
use Rattle.dst_codec.specs.declared.record_kind.RecordKind.TheVariants as kind

abbrev pub point : ℤ → ℤ → Point
point x y = record { x = x; y = y }

-- the greatest moves to the right and downwards
pub known_dst_stitch_record : (dst_stitch_record (point (pos 121) (pos 0)) ≡ 0x05 ∷ 0x05 ∷ 0x07 ∷ [])
    × (dst_stitch_record (point (pos 0) (pos 121)) ≡ 0x50 ∷ 0x50 ∷ 0x13 ∷ [])
    -- the moves round a square of 30
    × (dst_stitch_record (point (pos 30) (pos 0)) ≡ 0x00 ∷ 0x05 ∷ 0x03 ∷ [])
    × (dst_stitch_record (point (pos 0) (pos 30)) ≡ 0x00 ∷ 0x50 ∷ 0x03 ∷ [])
    × (dst_stitch_record (point (negsuc 29) (pos 0)) ≡ 0x00 ∷ 0x0A ∷ 0x03 ∷ [])
    × (dst_stitch_record (point (pos 0) (negsuc 29)) ≡ 0x00 ∷ 0xA0 ∷ 0x03 ∷ [])
known_dst_stitch_record = (refl, refl, refl, refl, refl, refl)

-- a jump of 100 to the right: 81 and 27 and 1, less 9
pub known_jump : (dst_jump_record (point (pos 100) (pos 0)) ≡ 0x09 ∷ 0x04 ∷ 0x87 ∷ [])
    × (dst_trim_records ≡ (0x82 ∷ 0x41 ∷ 0x83 ∷ []) ∷ (0x82 ∷ 0x82 ∷ 0x83 ∷ []) ∷ (0x82 ∷ 0x41 ∷ 0x83 ∷ []) ∷ [])
    × (dst_stop_record ≡ 0x00 ∷ 0x00 ∷ 0xC3 ∷ [])
    × (dst_end_record ≡ 0x00 ∷ 0x00 ∷ 0xF3 ∷ [])
known_jump = (refl, refl, refl, refl)

-- each bit of the table alone, by its byte: what it moves to the right and downwards
pub known_dst_move_of : (dst_move_of 0x01 0 0 ≡ point (pos 1) (pos 0))
    × (dst_move_of 0x82 0x82 0x83 ≡ point (negsuc 3) (negsuc 3))
known_dst_move_of = (refl, refl)

-- flags without both low bits have no meaning
pub known_kind_of : (kind_of 0x80 ≡ kind.Stitch)
    × (kind_of 0xC3 ≡ kind.Stop)
    × (kind_of 0xFF ≡ kind.End)
    × (kind_of 0x43 ≡ kind.Sequin)
known_kind_of = (refl, refl, refl, refl)
