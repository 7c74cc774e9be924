use Rattle.std.proofs.Common.{arith}
use Rattle.outside_io.proofs.Names.{nat_tests, take_rest}
use Rattle.outside_io.proofs.StreamLemmas.{adds_more}
use Rattle.outside_io.proofs.writing.write_all.Goals as goal

pub loop-rest-preserved : goal.loop-rest-preserved
loop-rest-preserved g c = grind (arith, nat_tests, adds_more, c.loop-rest.invariant, c.in-Ok.ensures.bytes, take_rest, c.in-Ok.count)
