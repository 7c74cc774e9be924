use Rattle.std.proofs.Common.{arith}
use Rattle.line_graph.proofs.LinkLemmas.{all_linked}
use Rattle.line_graph.proofs.first_lines.links.Goals as goal

pub returns : goal.returns
returns c =
    all_linked c.args.d.now c.loop-line.line _ _ (omega (arith, c.loop-line-test.false, c.line_count-line-end.ensures.value))
    c.loop-line.invariant
