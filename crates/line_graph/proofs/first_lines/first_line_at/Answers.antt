use Rattle.std.proofs.Common.{sym}
use Rattle.line_graph.proofs.LinkLemmas.{takes_new}
use Rattle.line_graph.proofs.first_lines.first_line_at.Goals as goal

pub returns-in_ok-insert-in-None : goal.returns-in_ok-insert-in-None
returns-in_ok-insert-in-None c =
    takes_new c.args.spot c.args.line _ _ (sym c.in-None.ensures) c.in_ok-insert-in-None.ensures.updates.0
