use Rattle.std.proofs.Common.{◌<◌, length, arith}
use Rattle.line_graph.proofs.NextLineLemmas.{chain_more}
use Rattle.line_graph.proofs.next_lines.lines_with.Goals as goal

pub loop-line-preserved : goal.loop-line-preserved
loop-line-preserved c =
    let below : c.loop-line.line < length c.args.labels.now = omega (arith, c.loop-line-test.true, c.requires.small) in
    chain_more c.args.labels.now c.args.label c.loop-line.line _ c.loop-line.lines _ below c.in_ok-push.ensures.ok
    (c.requires.next.late c.loop-line.line (omega arith) below) c.loop-line.invariant
