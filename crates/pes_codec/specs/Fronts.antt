-- The front of a file: the bytes by which its format is recognised, and which contain the offset of
-- its block.
use Rattle.std.specs.Prelude.{ℕ, ◌+◌, List, Bool, length, drop, nat_lt, codes, if◌then◌else◌}
use Rattle.format_traits.specs.declared.fault.ReadFault.{ReadFault}
use Rattle.format_traits.specs.declared.fault.ReadFault.TheVariants as fault
use Rattle.pes_codec.specs.declared.file_kind.FileKind.{FileKind}
use Rattle.pes_codec.specs.declared.file_kind.FileKind.TheVariants.{Pec, Pes}
use Rattle.pes_codec.specs.declared.front.TheConstants.{OFFSET_END, PEC_BLOCK_OFFSET}
use Rattle.pes_codec.specs.Files.{block_offset_in, is_pec_file, is_pes_file, pec_front, pes_front}

-- The layout of a front: its length, the test that recognises the format, and the offset of the
-- block.
pub record FrontLayout : Type 0 where
  pub length : ℕ
  pub known : List ℕ → Bool
  pub block : List ℕ → ℕ

-- The front of a kind of files. The block of a PEC file has a fixed offset. A PES file contains the
-- offset of its block, which may begin within the front.
abbrev pub front_layout_of : FileKind → FrontLayout
front_layout_of Pec = record {
  length = PEC_BLOCK_OFFSET;
  known = is_pec_file;
  block = λ bytes. PEC_BLOCK_OFFSET;
}
front_layout_of Pes = record { length = OFFSET_END; known = is_pes_file; block = block_offset_in }

-- The front of a written file.
abbrev pub front_of : FileKind → List ℕ
front_of Pec = pec_front
front_of Pes = pes_front

-- The ending of the files' names.
abbrev pub ending_of : FileKind → List ℕ
ending_of Pec = codes "pec"
ending_of Pes = codes "pes"

-- What bytes at an offset give, of which the first `skip` are before the block: what the block
-- gives, or `none` of the refusal.
abbrev pub after_skip : {A : Type 0} → (ReadFault → A) → (ℕ → List ℕ → A) → ℕ → ℕ → List ℕ → A
after_skip none block skip at bytes =
    if nat_lt (length bytes) skip then none (fault.Short (at + length bytes))
    else block (at + skip) (drop skip bytes)

-- What a file gives.
abbrev pub from_front : {A : Type 0} → (ReadFault → A) → (ℕ → List ℕ → A) → FrontLayout → List ℕ → A
from_front none block front_layout bytes =
    if front_layout.known bytes
    then (if nat_lt (length bytes) front_layout.length then none (fault.Short (length bytes))
    else after_skip none block (front_layout.block bytes) 0 bytes)
    else none (fault.Signature 0)
