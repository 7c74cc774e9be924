-- The meanings of the PEC and PES format objects.
use Rattle.format_traits.specs.Meanings.{Meaning}
use Rattle.pec_codec.specs.declared.block.TheConstants.{LIMIT}
use Rattle.pes_codec.specs.declared.file_kind.FileKind.{FileKind}
use Rattle.pes_codec.specs.declared.file_kind.FileKind.TheVariants.{Pec, Pes}
use Rattle.pes_codec.specs.Fronts.{ending_of}
use Rattle.pes_codec.specs.Reading.{file_moves, file_reads, file_shown}
use Rattle.pes_codec.specs.Writing.{file_writes}

-- The meaning of a format by the kind of its files: ending, limit, reading, writing and moves.
abbrev pub file_meaning : FileKind → Meaning
file_meaning kind = record {
  ending = ending_of kind;
  limit = LIMIT;
  reads = file_reads kind;
  writes = file_writes kind;
  moves = file_moves kind;
  shown = file_shown kind;
}

-- The meaning of the PEC format.
abbrev pub pec_meaning : Meaning
pec_meaning = file_meaning Pec

-- The meaning of the PES format.
abbrev pub pes_meaning : Meaning
pes_meaning = file_meaning Pes
