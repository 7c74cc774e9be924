use Rattle.std.proofs.Common.{arith}
use Rattle.thumbnails.proofs.LitLemmas.{lights_next}
use Rattle.thumbnails.proofs.lit_points.LitPoints.light_line.Goals as goal

pub loop-step-preserved : goal.loop-step-preserved
loop-step-preserved c = record {
  most = omega (arith, c.loop-step-test.true);
  lit = lights_next _ _ _ _ _ _ _ _ c.loop-step-test.true c.line_length-steps.ensures.value c.line_point.ensures.value c.light.ensures
      c.loop-step.invariant.lit;
}
