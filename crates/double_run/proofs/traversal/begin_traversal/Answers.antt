use Rattle.double_run.proofs.traversal.begin_traversal.Goals as goal
use Rattle.std.proofs.Common.{arith}
use Rattle.double_run.proofs.Names.{nat_tests}

pub returns : goal.returns
returns c = grind (arith, nat_tests, c.in_ok-o.ensures.blank, c.in_ok-go_out.ensures)
