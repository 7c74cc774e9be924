use Rattle.line_graph.proofs.RunLemmas.{runs_come}
use Rattle.line_graph.proofs.walk_theorems.runs_are_sewn.Goals as goal

pub returns : goal.returns
returns c = λ d. λ runs. λ some. runs_come 0 runs some 1
