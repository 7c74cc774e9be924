use Rattle.std.proofs.Common.{arith, drop, ◌+◌, ◌-◌, length-drop, length-take}
use Rattle.blossom_match.proofs.MaskLemmas.{block_next}
use Rattle.blossom_match.proofs.least.block_shown.Goals as goal

pub loop-at-preserved : goal.loop-at-preserved
loop-at-preserved c =
    let hs = c.args.heights.now in
    let r = c.args.reach.now in
    let m = c.args.mask.now in
    let at = c.loop-at.at in
    let n = (at + 64) - at in
    record {
      within = omega (arith, c.loop-at-test.true);
      none = λ x lx. block_next hs r m at n c.least_shown.result c.args.slack (omega (arith, c.if-least_shown-slack.false))
          (λ i low. c.least_shown.ensures.least i
          (omega (arith, low, c.loop-at-test.true, length-take n (drop at r), length-drop at r))) c.loop-at.invariant.none x
          (omega (arith, lx));
    }
