use Rattle.line_graph.proofs.GrowingLimitLemmas.{block_grows, empty_grows, finished_valid, label_grows, line_grows, step_grows}
use Rattle.line_graph.proofs.growing_theorems.growing_drawings_keep_limits.Goals as goal

pub returns-clause-empty : goal.returns-clause-empty
returns-clause-empty c = empty_grows

pub returns-clause-label : goal.returns-clause-label
returns-clause-label c = label_grows

pub returns-clause-step : goal.returns-clause-step
returns-clause-step c = step_grows

pub returns-clause-block : goal.returns-clause-block
returns-clause-block c = block_grows

pub returns-clause-line : goal.returns-clause-line
returns-clause-line c = line_grows

pub returns-clause-finished : goal.returns-clause-finished
returns-clause-finished c = finished_valid
