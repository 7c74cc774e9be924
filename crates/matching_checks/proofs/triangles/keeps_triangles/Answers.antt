use Rattle.std.proofs.Common.{below_more, refl}
use Rattle.matching_checks.proofs.triangles.keeps_triangles.Goals as goal

pub loop-a-preserved : goal.loop-a-preserved
loop-a-preserved c = below_more _ _ c.loop-a.invariant (c.if-not-keeps_from.ensures.0 refl)
