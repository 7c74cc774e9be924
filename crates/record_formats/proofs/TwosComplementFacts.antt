-- Worked values of numbers in two's complement: the ends of their ranges, in one byte and in 12 bits.
use Rattle.std.proofs.Common.{◌≡◌, pos, negsuc, [], ◌∷◌, map, refl}
use Rattle.record_formats.specs.TwosComplement.{from_twos_complement, to_twos_complement}

pub known_numbers : (map (from_twos_complement 128) (0x00 ∷ 0x7F ∷ 0x80 ∷ 0xFF ∷ [])
    ≡ pos 0 ∷ pos 127 ∷ negsuc 127 ∷ negsuc 0 ∷ [])
    × (map (to_twos_complement 128) (pos 0 ∷ pos 127 ∷ negsuc 127 ∷ negsuc 0 ∷ [])
    ≡ 0x00 ∷ 0x7F ∷ 0x80 ∷ 0xFF ∷ [])
    × (map (from_twos_complement 2048) (0x7FF ∷ 0x800 ∷ 0xFFF ∷ []) ≡ pos 2047 ∷ negsuc 2047 ∷ negsuc 0 ∷ [])
    × (map (to_twos_complement 2048) (pos 2047 ∷ negsuc 2047 ∷ negsuc 0 ∷ []) ≡ 0x7FF ∷ 0x800 ∷ 0xFFF ∷ [])
known_numbers = (refl, refl, refl, refl)
