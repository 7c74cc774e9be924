use Rattle.std.proofs.Common.{sym, ◌∙◌, arith}
use Rattle.line_meetings.proofs.TouchLemmas.{near_found, near_skips}
use Rattle.line_meetings.proofs.touches.distance_to.Goals as goal

pub loop-distance-preserved : goal.loop-distance-preserved
loop-distance-preserved c =
    let less = c.loop-distance-test.true in
    record {
      within = omega (arith, less);
      left = sym (near_skips _ _ _ _ less (grind (arith, c.comes_near.ensures, c.if-not-comes_near.true))) ∙ c.loop-distance.invariant.left;
    }

pub returns-else-not-comes_near : goal.returns-else-not-comes_near
returns-else-not-comes_near c =
    sym (near_found _ _ _ _ c.loop-distance-test.true (grind (arith, c.comes_near.ensures, c.if-not-comes_near.false)))
    ∙ c.loop-distance.invariant.left
