-- The meaning of the stitch list as a format object.
use Rattle.std.specs.Prelude.{codes}
use Rattle.format_traits.specs.Meanings.{Meaning}
use Rattle.stitch_text.specs.declared.stitch_list.TheConstants.{LIMIT}
use Rattle.stitch_text.specs.Readings.{list_moves, list_reads, list_shown}
use Rattle.stitch_text.specs.StitchLists.{list_writes}

-- The meaning of the stitch list: ending, limit, reading, writing and moves.
abbrev pub list_meaning : Meaning
list_meaning = record {
  ending = codes "lst";
  limit = LIMIT;
  reads = list_reads;
  writes = list_writes;
  moves = list_moves;
  shown = list_shown;
}
