-- The meaning of the DST format object.
use Rattle.std.specs.Prelude.{codes}
use Rattle.format_traits.specs.Meanings.{Meaning}
use Rattle.dst_codec.specs.declared.dst.TheConstants.{LIMIT}
use Rattle.dst_codec.specs.Reading.{dst_reads, dst_moves, dst_shown}
use Rattle.dst_codec.specs.Writing.{dst_writes}

-- The meaning of the DST format: ending, limit, reading, writing and moves.
abbrev pub dst_meaning : Meaning
dst_meaning = record {
  ending = codes "dst";
  limit = LIMIT;
  reads = dst_reads;
  writes = dst_writes;
  moves = dst_moves;
  shown = dst_shown;
}
