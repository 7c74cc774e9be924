-- Worked values of files.
use Rattle.std.proofs.Common.{◌≡◌, ℕ, pos, true, List, [], ◌∷◌, ◌++◌, length, take, replicate, codes, Err, IsOkAnd, refl}
use Rattle.pes_codec.proofs.Names.{DesignValue, Pec, Pes, origin, pec_meaning, pes_meaning, file_writes}
use Rattle.design_model.specs.declared.command.Command.TheVariants.{Stitch}
use Rattle.design_model.specs.declared.point.Point.{Point}
use Rattle.format_traits.specs.declared.fault.ReadFault.TheVariants as fault
use Rattle.pes_codec.specs.declared.front.TheConstants.{OFFSET_END, PEC_BLOCK_OFFSET}
use Rattle.pes_codec.specs.Files.{block_offset_in, pec_front, pes_front}
use Rattle.pes_codec.specs.Reading.{file_moves, file_reads, file_shown}

-- one stitch at the origin
abbrev stitch : DesignValue
stitch = record { label = []; threads = []; commands = Stitch origin ∷ [] }

pub known_formats : (pec_meaning.ending ≡ codes "pec") × (pes_meaning.ending ≡ codes "pes") × (pec_meaning.limit ≡ 2047)
    × (pes_meaning.limit ≡ 2047)
known_formats = (refl, refl, refl, refl)

pub known_pes_front : pes_front ≡ 0x23 ∷ 0x50 ∷ 0x45 ∷ 0x53 ∷ 0x30 ∷ 0x30 ∷ 0x30 ∷ 0x31 ∷ 0x16 ∷ 0x00 ∷ 0x00 ∷ 0x00
    ∷ 0x00 ∷ 0x00 ∷ 0x00 ∷ 0x00 ∷ 0x00 ∷ 0x00 ∷ 0x00 ∷ 0x00 ∷ 0x00 ∷ 0x00 ∷ []
known_pes_front = refl

pub known_pec_length : IsOkAnd (file_writes Pec stitch) (λ bytes. length bytes ≡ 995)
known_pec_length = refl

pub known_pes_length : IsOkAnd (file_writes Pes stitch) (λ bytes. length bytes ≡ 1009)
known_pes_length = refl

-- the front stands before the block
pub known_begins : IsOkAnd (file_writes Pec stitch) (λ bytes. take 11 bytes ≡ pec_front ++ codes "LA:")
    × IsOkAnd (file_writes Pes stitch) (λ bytes. take 25 bytes ≡ pes_front ++ codes "LA:")
known_begins = (refl, refl)

pub known_pec_front : pec_front ≡ 0x23 ∷ 0x50 ∷ 0x45 ∷ 0x43 ∷ 0x30 ∷ 0x30 ∷ 0x30 ∷ 0x31 ∷ []
known_pec_front = refl

-- where the block of a PEC file stands, and where the offset of a PES file ends
pub known_block : (PEC_BLOCK_OFFSET ≡ 8)
    × (OFFSET_END ≡ 12)
known_block = (refl, refl)

-- the four bytes after a signature are not looked at, whatever they are
pub known_file_reads : (file_reads Pec (codes "#PECxyz!") ≡ Err (fault.Short 8))
    × (file_reads Pec (codes "#PEC") ≡ Err (fault.Short 4))
    × (file_reads Pes (codes "#PESxyz!" ++ 0xFF ∷ 0x00 ∷ 0x00 ∷ 0x00 ∷ []) ≡ Err (fault.Short 12))
    × (file_reads Pes (codes "#PES") ≡ Err (fault.Short 4))
    -- neither signature stands for the other, nor do small letters
    × (file_reads Pec (codes "#PES0001") ≡ Err (fault.Signature 0))
    × (file_reads Pes (codes "#PEC0001") ≡ Err (fault.Signature 0))
    × (file_reads Pes (codes "#pes0001") ≡ Err (fault.Signature 0))
known_file_reads = (refl, refl, refl, refl, refl, refl, refl)

-- the offset is a word of 32 bits, the low byte first
pub known_offset : block_offset_in (codes "#PES0060" ++ 0x01 ∷ 0x02 ∷ 0x03 ∷ 0x80 ∷ []) ≡ 2147680769
known_offset = refl

pub known_signature : (file_reads Pec (codes "#PAC0001") ≡ Err (fault.Signature 0))
    × (file_reads Pec (codes "#PEC0001") ≡ Err (fault.Short 8))
    -- fewer bytes than the signature has are not it
    × (file_reads Pes (codes "#PE") ≡ Err (fault.Signature 0))
    × (file_reads Pes (codes "#PES0001" ++ 0x16 ∷ 0x00 ∷ 0x00 ∷ []) ≡ Err (fault.Short 11))
    × (file_reads Pes (codes "#PES0001" ++ 0xFF ∷ 0xFF ∷ 0xFF ∷ 0xFF ∷ []) ≡ Err (fault.Short 12))
known_signature = (refl, refl, refl, refl, refl)

-- a block at the beginning of its own file: 33 threads of number 32, one stitch, and the end
pub known_own_front : IsOkAnd (file_reads Pes (codes "#PES0001" ++ 0x00 ∷ 0x00 ∷ 0x00 ∷ 0x00 ∷ replicate 516 32 ++ 0x00 ∷ 0x00
    ∷ 0xFF ∷ [])) (λ loaded. loaded ≡ record {
      design = record { label = []; threads = replicate 33 32; commands = Stitch origin ∷ [] };
      ended = true;
    })
known_own_front = refl

-- a block of a stitch to the right and further downwards, and the end; what follows is not looked at
abbrev pub block : List ℕ
block = replicate 528 32 ++ 0x05 ∷ 0x07 ∷ 0xFF ∷ 0x01 ∷ 0x01 ∷ []

abbrev pub target : Point
target = record { x = pos 5; y = pos 7 }

-- it stands at offset 8 of a PEC file, and here at 14 of a PES file
pub known_pec_moves : (file_moves Pec (codes "#PEC0001" ++ block) ≡ target ∷ [])
    × (file_shown Pec (codes "#PEC0001" ++ block) ≡ Stitch target ∷ [])
    × (file_moves Pes (codes "#PES0001" ++ 0x0E ∷ 0x00 ∷ 0x00 ∷ 0x00 ∷ 0x00 ∷ 0x00 ∷ block) ≡ target ∷ [])
    × (file_shown Pes (codes "#PES0001" ++ 0x0E ∷ 0x00 ∷ 0x00 ∷ 0x00 ∷ 0x00 ∷ 0x00 ∷ block) ≡ Stitch target ∷ [])
known_pec_moves = (refl, refl, refl, refl)

-- a file that isn't known moves and shows nothing
pub known_other_moves : (file_moves Pec (codes "#PES0001" ++ block) ≡ [])
    × (file_shown Pec (codes "#PES0001" ++ block) ≡ [])
known_other_moves = (refl, refl)
