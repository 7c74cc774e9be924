-- The meaning of the EXP format object.
use Rattle.std.specs.Prelude.{codes}
use Rattle.format_traits.specs.Meanings.{Meaning}
use Rattle.exp_codec.specs.declared.exp.TheConstants.{LIMIT}
use Rattle.exp_codec.specs.Reading.{exp_reads, exp_moves, exp_shown}
use Rattle.exp_codec.specs.Writing.{exp_writes}

-- The meaning of the EXP format: ending, limit, reading, writing and moves.
abbrev pub exp_meaning : Meaning
exp_meaning = record {
  ending = codes "exp";
  limit = LIMIT;
  reads = exp_reads;
  writes = exp_writes;
  moves = exp_moves;
  shown = exp_shown;
}
