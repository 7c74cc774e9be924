-- Worked values of coordinates: the ends of their ranges, their marks, and their encoding.
use Rattle.std.proofs.Common.{◌≡◌, pos, negsuc, true, false, [], ◌∷◌, map, Some, None, refl}
use Rattle.pec_codec.proofs.Names.{leading_coordinate, is_short_number, short_bytes, pec_jump_record, pec_stitch_record, pec_stop_record, long_bytes_of, pec_trim_record}
use Rattle.pec_codec.proofs.RecordByteLemmas.{coordinate_at}

pub known_short : (map (λ byte. leading_coordinate (byte ∷ [])) (0x00 ∷ 0x1E ∷ 0x3F ∷ 0x40 ∷ 0x62 ∷ 0x7F ∷ [])
    ≡ Some (coordinate_at 1 (pos 0) false false) ∷ Some (coordinate_at 1 (pos 30) false false)
    ∷ Some (coordinate_at 1 (pos 63) false false) ∷ Some (coordinate_at 1 (negsuc 63) false false)
    ∷ Some (coordinate_at 1 (negsuc 29) false false) ∷ Some (coordinate_at 1 (negsuc 0) false false) ∷ [])
    × (map leading_coordinate ((0x81 ∷ 0xF4 ∷ []) ∷ (0x87 ∷ 0xFF ∷ []) ∷ (0x88 ∷ 0x00 ∷ []) ∷ (0x8F ∷ 0xFF ∷ []) ∷ [])
    ≡ Some (coordinate_at 2 (pos 500) false false) ∷ Some (coordinate_at 2 (pos 2047) false false)
    ∷ Some (coordinate_at 2 (negsuc 2047) false false) ∷ Some (coordinate_at 2 (negsuc 0) false false) ∷ [])
    -- bit 5 of the first byte is a trim mark and bit 4 a jump mark; bit 6 has no meaning
    × (map leading_coordinate ((0xA0 ∷ 0x00 ∷ []) ∷ (0x90 ∷ 0x00 ∷ []) ∷ (0xB0 ∷ 0x00 ∷ []) ∷ (0xC0 ∷ 0x00 ∷ []) ∷ [])
    ≡ Some (coordinate_at 2 (pos 0) true false) ∷ Some (coordinate_at 2 (pos 0) false true)
    ∷ Some (coordinate_at 2 (pos 0) true true) ∷ Some (coordinate_at 2 (pos 0) false false) ∷ [])
    -- a second byte may be wanting
    × (map leading_coordinate ([] ∷ (0x80 ∷ []) ∷ []) ≡ None ∷ None ∷ [])
    × (map is_short_number (pos 62 ∷ pos 63 ∷ negsuc 62 ∷ negsuc 63 ∷ []) ≡ true ∷ false ∷ true ∷ false ∷ [])
    × (map short_bytes (pos 62 ∷ negsuc 62 ∷ negsuc 29 ∷ []) ≡ (0x3E ∷ []) ∷ (0x41 ∷ []) ∷ (0x62 ∷ []) ∷ [])
    × (map (long_bytes_of 0) (pos 63 ∷ pos 2047 ∷ negsuc 2046 ∷ [])
    ≡ (0x80 ∷ 0x3F ∷ []) ∷ (0x87 ∷ 0xFF ∷ []) ∷ (0x88 ∷ 0x01 ∷ []) ∷ [])
    -- one long number makes both long
    × (map pec_stitch_record (record { x = pos 62; y = negsuc 62 } ∷ record { x = pos 63; y = pos 0 } ∷ [])
    ≡ (0x3E ∷ 0x41 ∷ []) ∷ (0x80 ∷ 0x3F ∷ 0x80 ∷ 0x00 ∷ []) ∷ [])
known_short = (refl, refl, refl, refl, refl, refl, refl, refl)

pub known_jump : (pec_jump_record (record { x = pos 300; y = negsuc 0 }) ≡ 0x91 ∷ 0x2C ∷ 0x9F ∷ 0xFF ∷ [])
    × (pec_trim_record ≡ 0xA0 ∷ 0x00 ∷ 0xA0 ∷ 0x00 ∷ [])
    × (map pec_stop_record (0 ∷ 1 ∷ 2 ∷ [])
    ≡ (0xFE ∷ 0xB0 ∷ 0x02 ∷ []) ∷ (0xFE ∷ 0xB0 ∷ 0x01 ∷ []) ∷ (0xFE ∷ 0xB0 ∷ 0x02 ∷ []) ∷ [])
known_jump = (refl, refl, refl)
