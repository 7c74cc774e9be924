use Rattle.std.proofs.Common.{arith}
use Rattle.record_formats.proofs.Names.{nat_tests}
use Rattle.record_formats.proofs.WriterLemmas.{jumps_and}
use Rattle.record_formats.proofs.act_writing.ActRecords.put_hops.Goals as goal

pub returns : goal.returns
returns g c = grind (arith, nat_tests, jumps_and)
