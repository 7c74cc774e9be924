use Rattle.stitch_text.proofs.list_decoder.ListDecoder.take_part.Goals as goal
use Rattle.stitch_text.proofs.PartLemmas.{open_part}
use Rattle.stitch_text.proofs.StageLemmas.{goes_beyond}
use Rattle.std.proofs.Common.{arith}
use Rattle.stitch_text.proofs.Names.{drop_all, some_part, nat_tests}

pub returns : goal.returns
returns c =
    grind (
      arith,
      nat_tests,
      drop_all,
      open_part,
      goes_beyond,
      some_part,
      c.requires.line,
      c.max_waiting.ensures,
      c.if-part-max_waiting.false,
      c.after_long_line-self.ensures,
    )
