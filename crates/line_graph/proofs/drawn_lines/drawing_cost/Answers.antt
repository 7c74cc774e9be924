use Rattle.std.proofs.Common.{arith}
use Rattle.line_graph.proofs.NeedleLemmas.{next_cost}
use Rattle.line_graph.proofs.drawn_lines.drawing_cost.Goals as goal

pub overflow_add-cost : goal.overflow_add-cost
overflow_add-cost c =
    let next = next_cost c.args.d.now c.loop-line.line _ _ c.keeps_limits.ensures.limits
    (omega (arith, c.loop-line-test.true, c.line_count-line-end.ensures.value)) c.loop-line.invariant c.line_cost-cost.ensures in
    omega (arith, next.1)

pub loop-line-preserved : goal.loop-line-preserved
loop-line-preserved c =
    (next_cost c.args.d.now c.loop-line.line _ _ c.keeps_limits.ensures.limits
    (omega (arith, c.loop-line-test.true, c.line_count-line-end.ensures.value)) c.loop-line.invariant c.line_cost-cost.ensures).0
