use Rattle.std.proofs.Common.{below_more, refl}
use Rattle.matching_checks.proofs.triangles.keeps_from.Goals as goal

pub loop-b-preserved : goal.loop-b-preserved
loop-b-preserved c = below_more _ _ c.loop-b.invariant (c.if-not-keeps_by.ensures.0 refl)
