use Rattle.line_graph.proofs.LabelLemmas.{own_reached}
use Rattle.line_graph.proofs.line_labels.labels.Goals as goal
use Rattle.std.proofs.Common.{arith}
use Rattle.line_graph.proofs.Names.{nat_tests}

pub returns-clause-value : goal.returns-clause-value
returns-clause-value c = grind (arith, nat_tests, own_reached, c.in_ok-labels.ensures, c.settle.ensures)
