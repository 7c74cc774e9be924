-- The results of writing a design as a PEC or PES file: the front of the file, and the block.
use Rattle.std.specs.Prelude.{ℕ, List, ◌++◌, Result, Ok, Err}
use Rattle.design_model.specs.Designs.{DesignValue}
use Rattle.format_traits.specs.declared.fault.WriteFault.{WriteFault}
use Rattle.pec_codec.specs.Writing.{pec_block_writes}
use Rattle.pes_codec.specs.declared.file_kind.FileKind.{FileKind}
use Rattle.pes_codec.specs.Fronts.{front_of}

-- A block after the front of a file; a refusal stays.
abbrev pub after_front : List ℕ → Result (List ℕ) WriteFault → Result (List ℕ) WriteFault
after_front front (Ok block) = Ok (front ++ block)
after_front front (Err f) = Err f

-- The result of writing a design as a file.
abbrev pub file_writes : FileKind → DesignValue → Result (List ℕ) WriteFault
file_writes kind d = after_front (front_of kind) (pec_block_writes d)
