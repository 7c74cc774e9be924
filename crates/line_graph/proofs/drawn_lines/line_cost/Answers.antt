use Rattle.std.proofs.Common.{◌≡◌, arith}
use Rattle.line_graph.proofs.DrawingNames.{points_of, steps_of_line}
use Rattle.line_graph.proofs.DrawingLemmas.{cost_is}
use Rattle.line_graph.proofs.drawn_lines.line_cost.Goals as goal

pub returns : goal.returns
returns c =
    let steps : c.line_steps.result ≡ steps_of_line c.args.d.now.step (points_of c.args.d.now c.args.line) =
    rw (← c.step.ensures.value, ← c.points_to_sew.ensures.value) c.line_steps.ensures.value in
    omega (arith, steps, cost_is c.args.d.now c.args.line c.requires c.step.ensures.limits)
