use Rattle.std.proofs.Common.{arith, ap, length}
use Rattle.line_graph.proofs.NeedleLemmas.{few_points}
use Rattle.line_graph.proofs.drawn_lines.points_to_sew.Goals as goal

pub returns-clause-few : goal.returns-clause-few
returns-clause-few c =
    omega (arith, ap length c.line_points.ensures, few_points c.args.d.now c.args.line c.requires c.keeps_limits.ensures.limits)
