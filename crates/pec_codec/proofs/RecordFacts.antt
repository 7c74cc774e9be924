-- Worked values of the records of blocks, at offset 0, and of blocks at other offsets.
use Rattle.std.proofs.Common.{◌≡◌, ℕ, ℤ, pos, negsuc, true, false, List, [], ◌∷◌, ◌++◌, map, replicate, Err, refl}
use Rattle.pec_codec.proofs.Names.{Point, next, over, pec_block_moves, pec_block_reads, pec_block_shown, pec_records}
use Rattle.design_model.specs.declared.command.Command.TheVariants as command
use Rattle.record_formats.specs.declared.event.Event.TheVariants.{Jump, Stitch, Stop, TrimmedJump}
use Rattle.format_traits.specs.declared.fault.ReadFault.TheVariants as fault

abbrev point : ℤ → ℤ → Point
point x y = record { x = x; y = y }

-- a stitch of 500, and the end; what follows is not looked at
pub known_pec_records : (pec_records 0 (0x00 ∷ 0x00 ∷ 0x81 ∷ 0xF4 ∷ 0x80 ∷ 0x00 ∷ 0xFF ∷ 0x05 ∷ [])
    ≡ next 0 (Stitch (point (pos 0) (pos 0))) (next 2 (Stitch (point (pos 500) (pos 0))) (over true)))
    -- either coordinate may be the long one
    × (pec_records 0 (0x05 ∷ 0x88 ∷ 0x00 ∷ 0x90 ∷ 0x07 ∷ 0x7F ∷ [])
    ≡ next 0 (Stitch (point (pos 5) (negsuc 2047))) (next 3 (Jump (point (pos 7) (negsuc 0))) (over false)))
    -- the mark of a jump comes before that of a trim
    × (pec_records 0 (0xA0 ∷ 0x01 ∷ 0x02 ∷ 0xA0 ∷ 0x01 ∷ 0x90 ∷ 0x02 ∷ 0xFF ∷ [])
    ≡ next 0 (TrimmedJump (point (pos 1) (pos 2))) (next 3 (Jump (point (pos 1) (pos 2))) (over true)))
    -- a mark of the second coordinate counts as one of the first does
    × (pec_records 0 (0x02 ∷ 0xA0 ∷ 0x01 ∷ 0x02 ∷ 0x90 ∷ 0x01 ∷ 0xFF ∷ [])
    ≡ next 0 (TrimmedJump (point (pos 2) (pos 1))) (next 3 (Jump (point (pos 2) (pos 1))) (over true)))
    -- the third byte of a stop is not looked at
    × (pec_records 0 (0xFE ∷ 0xB0 ∷ 0xFF ∷ 0x05 ∷ 0x06 ∷ 0xFF ∷ [])
    ≡ next 0 Stop (next 3 (Stitch (point (pos 5) (pos 6))) (over true)))
    -- without B0 after it FE is a coordinate, with both marks
    × (pec_records 0 (0xFE ∷ 0x01 ∷ 0x00 ∷ []) ≡ next 0 (Jump (point (negsuc 510) (pos 0))) (over false))
    -- some writers begin with two words 9xxx, which read as a jump
    × (pec_records 0 (0x90 ∷ 0x1E ∷ 0x90 ∷ 0x1E ∷ 0xFF ∷ [])
    ≡ next 0 (Jump (point (pos 30) (pos 30))) (over true))
known_pec_records = (refl, refl, refl, refl, refl, refl, refl)

-- an incomplete record or stop is ignored
pub known_incomplete : map (pec_records 0) ([] ∷ (0x05 ∷ []) ∷ (0x05 ∷ 0x80 ∷ []) ∷ (0xFE ∷ 0xB0 ∷ []) ∷ (0xFE ∷ []) ∷ [])
    ≡ over false ∷ over false ∷ over false ∷ over false ∷ over false ∷ []
known_incomplete = refl

-- a file that ends before its block, where that begins, and in its header
pub known_short : (pec_block_reads 4 (7 ∷ 7 ∷ []) ≡ Err (fault.Short 2)) × (pec_block_reads 2 (7 ∷ 7 ∷ []) ≡ Err (fault.Short 2))
    × (pec_block_reads 2 (7 ∷ 7 ∷ 7 ∷ []) ≡ Err (fault.Short 3)) × (pec_block_shown 4 (7 ∷ 7 ∷ []) ≡ [])
known_short = (refl, refl, refl, refl)

-- a block after one byte
abbrev behind_one : List ℕ
behind_one = 7 ∷ (replicate 528 32 ++ 0x05 ∷ 0x07 ∷ 0xFF ∷ [])

pub known_behind : (pec_block_moves 1 behind_one ≡ point (pos 5) (pos 7) ∷ [])
    × (pec_block_shown 1 behind_one ≡ command.Stitch (point (pos 5) (pos 7)) ∷ [])
known_behind = (refl, refl)
