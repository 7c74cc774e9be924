use Rattle.std.proofs.Common.{arith}
use Rattle.record_formats.proofs.Names.{nat_tests}
use Rattle.record_formats.proofs.WriterLemmas.{jumps_and}
use Rattle.record_formats.proofs.rereading.Parts.{part_all}
use Rattle.record_formats.proofs.act_writing.ActRecords.put_float.Goals as goal

pub returns-then-equals_max : goal.returns-then-equals_max
returns-then-equals_max g c =
    let all = part_all c.args.step c.args.count c.requires.some in
    grind (arith, nat_tests, jumps_and, all, c.part_move.ensures.value, c.write_limits.ensures.value, c.equals_max.ensures)
